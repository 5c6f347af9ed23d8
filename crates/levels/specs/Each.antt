-- What holds at each level: of one number, of two and of three.
use Rattle.std.specs.Prelude.{ℕ}
use Rattle.levels.specs.declared.Levels.{Levels}

pub record AtEach (P : ℕ → Type 0) (l : Levels) : Type 0 where
  pub at_clearing : P l.clearing
  pub at_maintenance : P l.maintenance
  pub at_initial : P l.initial

pub record AtBoth (P : ℕ → ℕ → Type 0) (l m : Levels) : Type 0 where
  pub at_clearing : P l.clearing m.clearing
  pub at_maintenance : P l.maintenance m.maintenance
  pub at_initial : P l.initial m.initial

pub record AtThree (P : ℕ → ℕ → ℕ → Type 0) (l m r : Levels) : Type 0 where
  pub at_clearing : P l.clearing m.clearing r.clearing
  pub at_maintenance : P l.maintenance m.maintenance r.maintenance
  pub at_initial : P l.initial m.initial r.initial
