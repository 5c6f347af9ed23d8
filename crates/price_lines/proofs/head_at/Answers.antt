use Rattle.std.proofs.Common.{sym, ◌∙◌}
use Rattle.laws.specs.TruthLaws.{clash}
use Rattle.price_lines.specs.TestLaws.{inside_is, with_head, without_head}
use Rattle.price_lines.proofs.head_at.Goals as goal
use Rattle.price_lines.proofs.head_at.Goals.{else-letter-eq81-via-then-letter-eq81+then-is_inside+then-is_parted+else-is_headed, else-letter-eq81-via-then-letter-eq81+then-is_inside+else-is_parted, else-letter-eq81-via-then-letter-eq81+else-is_inside, else-letter-eq81-via-else-letter-eq81}

pub is_parted-requires : goal.is_parted-requires
is_parted-requires c = inside_is _ _ (sym c.is_inside.ensures ∙ c.if-is_inside.true)

pub is_headed-requires : goal.is_headed-requires
is_headed-requires c = inside_is _ _ (sym c.is_inside.ensures ∙ c.if-is_inside.true)

pub returns-then-is_headed : goal.returns-then-is_headed
returns-then-is_headed c =
    with_head _ _ _ _
    (record {
      letter_is = c.if-letter-eq81.true;
      inside = sym c.is_inside.ensures ∙ c.if-is_inside.true;
      parted = sym c.is_parted.ensures ∙ c.if-is_parted.true;
      told = sym c.is_headed.ensures ∙ c.if-is_headed.true;
    })

pub returns-else-letter-eq81 : goal.returns-else-letter-eq81
returns-else-letter-eq81 c =
    without_head c.args.letter c.args.t.now c.args.at c.args.cells
    (λ s. elim c.else-letter-eq81.branch [
      | else-letter-eq81-via-then-letter-eq81+then-is_inside+then-is_parted+else-is_headed w ↦ clash s.told (sym w.is_headed.ensures ∙ w.if-is_headed.false)
      | else-letter-eq81-via-then-letter-eq81+then-is_inside+else-is_parted w ↦ clash s.parted (sym w.is_parted.ensures ∙ w.if-is_parted.false)
      | else-letter-eq81-via-then-letter-eq81+else-is_inside w ↦ clash s.inside (sym w.is_inside.ensures ∙ w.if-is_inside.false)
      | else-letter-eq81-via-else-letter-eq81 w ↦ w.if-letter-eq81.false s.letter_is
    ])
