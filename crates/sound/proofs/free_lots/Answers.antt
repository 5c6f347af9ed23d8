use Rattle.std.proofs.Common.{arith, ◌∙◌}
use Rattle.sound.specs.WalkLaws.{going_starts, few_pairs, few_firsts, few_seconds, pair_counts, first_lacks, second_lacks, pair_takes, going_ends}
use Rattle.sound.proofs.free_lots.Goals as goal

pub loop-j-init : goal.loop-j-init
loop-j-init c = going_starts c.requires

pub offset_bounds-pairs-j : goal.offset_bounds-pairs-j
offset_bounds-pairs-j c = let few = few_pairs c.loop-j.invariant c.loop-j-test.true in omega arith

pub bounds-pairs-j : goal.bounds-pairs-j
bounds-pairs-j c = let few = few_pairs c.loop-j.invariant c.loop-j-test.true in omega arith

pub offset_bounds-firsts-j : goal.offset_bounds-firsts-j
offset_bounds-firsts-j c = let few = few_pairs c.loop-j.invariant c.loop-j-test.true in omega arith

pub bounds-firsts-j : goal.bounds-firsts-j
bounds-firsts-j c = let few = few_pairs c.loop-j.invariant c.loop-j-test.true in omega arith

pub offset_bounds-free-x : goal.offset_bounds-free-x
offset_bounds-free-x c = let few = few_firsts c.loop-j.invariant c.loop-j-test.true in omega arith

pub bounds-free-x : goal.bounds-free-x
bounds-free-x c = let few = few_firsts c.loop-j.invariant c.loop-j-test.true in omega arith

pub overflow_mul-m : goal.overflow_mul-m
overflow_mul-m c = let few = (pair_counts c.loop-j.invariant c.loop-j-test.true).few_lots1 in omega arith

pub returns-then-lots_on-m : goal.returns-then-lots_on-m
returns-then-lots_on-m c = c.unsound.ensures ∙ first_lacks c.loop-j.invariant c.loop-j-test.true c.first_side-s.ensures c.lots_on.ensures c.if-lots_on-m.true

pub offset_bounds-free-x-in-loop-j : goal.offset_bounds-free-x-in-loop-j
offset_bounds-free-x-in-loop-j c = let few = few_firsts c.loop-j.invariant c.loop-j-test.true in omega arith

pub bounds-free-x-in-loop-j : goal.bounds-free-x-in-loop-j
bounds-free-x-in-loop-j c = let few = few_firsts c.loop-j.invariant c.loop-j-test.true in omega arith

pub offset_bounds-seconds-j : goal.offset_bounds-seconds-j
offset_bounds-seconds-j c = let few = few_pairs c.loop-j.invariant c.loop-j-test.true in omega arith

pub bounds-seconds-j : goal.bounds-seconds-j
bounds-seconds-j c = let few = few_pairs c.loop-j.invariant c.loop-j-test.true in omega arith

pub offset_bounds-free-y : goal.offset_bounds-free-y
offset_bounds-free-y c = let few = few_seconds c.loop-j.invariant c.loop-j-test.true in omega arith

pub bounds-free-y : goal.bounds-free-y
bounds-free-y c = let few = few_seconds c.loop-j.invariant c.loop-j-test.true in omega arith

pub overflow_mul-n : goal.overflow_mul-n
overflow_mul-n c = let few = (pair_counts c.loop-j.invariant c.loop-j-test.true).few_lots2 in omega arith

pub returns-then-lots_on-n : goal.returns-then-lots_on-n
returns-then-lots_on-n c = c.unsound-then-lots_on-n.ensures ∙ second_lacks c.loop-j.invariant c.loop-j-test.true c.first_side-s.ensures c.lots_on.ensures c.if-lots_on-m.false c.lessen.ensures c.second_side-t.ensures c.lots_on-in-loop-j.ensures c.if-lots_on-n.true

pub offset_bounds-free-y-in-loop-j : goal.offset_bounds-free-y-in-loop-j
offset_bounds-free-y-in-loop-j c = let few = few_seconds c.loop-j.invariant c.loop-j-test.true in omega arith

pub bounds-free-y-in-loop-j : goal.bounds-free-y-in-loop-j
bounds-free-y-in-loop-j c = let few = few_seconds c.loop-j.invariant c.loop-j-test.true in omega arith

pub loop-j-preserved : goal.loop-j-preserved
loop-j-preserved c = pair_takes c.loop-j.invariant c.loop-j-test.true c.first_side-s.ensures c.lots_on.ensures c.if-lots_on-m.false c.lessen.ensures c.second_side-t.ensures c.lots_on-in-loop-j.ensures c.if-lots_on-n.false c.lessen-in-loop-j.ensures

pub returns : goal.returns
returns c = going_ends c.loop-j.invariant c.loop-j-test.false
