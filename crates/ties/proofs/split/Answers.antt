use Rattle.calls.proofs.AnswerLaws.{split_splits}
use Rattle.ties.proofs.split.Goals as goal

pub split_book-requires : goal.split_book-requires
split_book-requires c = split_splits _ _ c.in_ok-split_check.ensures
