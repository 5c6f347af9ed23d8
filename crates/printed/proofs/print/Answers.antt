use Rattle.std.proofs.Common.{arith, length-take-le, sym, ℕ, ◌∙◌}
use lib.ListN.{length-replicate}
use Rattle.put.specs.PutLaws.{put_is}
use Rattle.printed.specs.PrintedLaws.{composed, unsound_answer, short_answer, whole_answer, straight_answer}
use Rattle.printed.proofs.print.Goals as goal

pub returns-then-not-is_sound : goal.returns-then-not-is_sound
returns-then-not-is_sound c = unsound_answer _ _ (sym c.is_sound.ensures ∙ c.if-not-is_sound.true)

pub put_book-requires : goal.put_book-requires
put_book-requires c = (sym c.is_sound.ensures ∙ c.if-not-is_sound.false, c.if-out-ge16384.true)

pub returns-then-out-ge16384 : goal.returns-then-out-ge16384
returns-then-out-ge16384 c = straight_answer _ (sym c.is_sound.ensures ∙ c.if-not-is_sound.false) c.if-out-ge16384.true (put_is c.put_book.ensures)

pub put_book-n-requires : goal.put_book-n-requires
put_book-n-requires c = (sym c.is_sound.ensures ∙ c.if-not-is_sound.false, omega (arith, length-replicate {A = ℕ} 16384 0))

pub returns-then-out-n : goal.returns-then-out-n
returns-then-out-n c =
    let t = composed (sym c.is_sound.ensures ∙ c.if-not-is_sound.false) (length-replicate {A = ℕ} 16384 0) (put_is c.put_book-n.ensures) in
    short_answer t _ c.if-out-n.true

pub slice_bounds-put_bytes-end : goal.slice_bounds-put_bytes-end
slice_bounds-put_bytes-end c =
    let t = composed (sym c.is_sound.ensures ∙ c.if-not-is_sound.false) (length-replicate {A = ℕ} 16384 0) (put_is c.put_book-n.ensures) in
    sym (length-take-le _ _ t.fits)

pub returns : goal.returns
returns c =
    let t = composed (sym c.is_sound.ensures ∙ c.if-not-is_sound.false) (length-replicate {A = ℕ} 16384 0) (put_is c.put_book-n.ensures) in
    whole_answer t _ c.if-out-n.false (put_is c.put_bytes.ensures)
