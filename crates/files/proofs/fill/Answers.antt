-- After a read the start of the buffer is what it was, and then the bytes that were read.
use Rattle.std.proofs.Common.{◌≡◌, ℕ, List, ◌+◌, ◌++◌, ◌≤◌, ◌∙◌, length, take, ap, subst, sym, rules, length-take-le}
use Rattle.std.proofs.Math.Seq.{take-append-add}
use Rattle.std.proofs.lemmas.List.{take-append-le}
use Rattle.std.specs.Io.KnownBytes.{Consumes}
use Rattle.std.proofs.KnownBytes.{Consumes-trans}
use Rattle.files.proofs.fill.Goals as goal

start_filled : (at n : ℕ) (xs ys rest : List ℕ) → at ≤ length xs → n ≤ length ys → take (at + n) (take at xs ++ (ys ++ rest)) ≡ take at xs ++ take n ys
start_filled at n xs ys rest within fits =
    let front = take at xs in
    let long : length front ≡ at = length-take-le at xs within in
    ap (λ k. take (k + n) (front ++ (ys ++ rest))) (sym long) ∙ take-append-add front (ys ++ rest) n ∙ ap (λ zs. front ++ zs) (take-append-le n ys rest fits)

pub loop-at-preserved : goal.loop-at-preserved
loop-at-preserved g c =
    let filled = start_filled c.loop-at.at c.in_ok-n.n c.loop-at.buffer c.read.new.buf _ c.loop-at.invariant.0 c.in_ok-n.ensures.bound.0 in
    (search rules, subst (Consumes _ _) (sym filled) (Consumes-trans _ _ _ _ _ c.loop-at.invariant.1 c.in_ok-n.ensures.bytes.0))
