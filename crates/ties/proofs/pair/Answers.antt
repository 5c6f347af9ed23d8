use Rattle.calls.proofs.AnswerLaws.{pair_pairs}
use Rattle.ties.proofs.pair.Goals as goal

pub pair_book-requires : goal.pair_book-requires
pair_book-requires c = pair_pairs _ _ c.in_ok-pair_check.ensures
