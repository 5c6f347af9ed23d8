use Rattle.std.proofs.Common.{arith, ℕ, List, length, take, length-take, ◌≤◌}
use Rattle.rules.specs.RuleLaws.{sound_is}
use Rattle.put.specs.PutLaws.{put_says}
use Rattle.printed.specs.PrintedLaws.{book_laid}
use Rattle.printed.specs.PlacedLaws.{placed_then, room_left}
use Rattle.printed.proofs.put_book.Goals as goal

few_taken : {A : Type 0} {n : ℕ} (rows : List A) → n ≤ 128 → length (take n rows) ≤ 128
few_taken {n = n} rows h = let l = length-take n rows in omega arith

pub put_holdings-held-requires : goal.put_holdings-held-requires
put_holdings-held-requires c =
    let s = sound_is _ c.requires.0 in
    (s.holdings_sound_lem.all_good, few_taken c.args.b.holdings s.holdings_sound_lem.few, room_left c.put_head-head.ensures 5426 (omega arith))

pub put_pairs-requires : goal.put_pairs-requires
put_pairs-requires c =
    let s = sound_is _ c.requires.0 in
    (s.pairs_sound_lem.all_good, few_taken c.args.b.pairs s.pairs_sound_lem.few, room_left (placed_then c.put_head-head.ensures c.put_holdings-held.ensures) 9186 (omega arith))

pub returns : goal.returns
returns c = put_says (book_laid _ c.put_head-head.ensures.done c.put_holdings-held.ensures.done c.put_pairs.ensures.done)
