-- Demand 3 and the contracts: a program that meets the contracts of the calls meets demand 3, and whatever meets demand 3 comes, after any
-- calls, to the book that our calls come to. Demand 3 leaves no second book.
use Rattle.std.specs.Prelude.{◌≡◌, Bool, ℕ, eqb}
use Rattle.std.proofs.Math.Path.{refl, ap}
use Rattle.std.proofs.Common.{sym, ◌∙◌, subst, eqb-true, eq-eqb}
use mathlib.Core.List.{List, [], ◌∷◌, ◌++◌, append-nil, append_assoc}
use Rattle.laws.specs.Truth.{pick}
use Rattle.laws.specs.TruthLaws.{by_test, same_test}
use Rattle.laws.specs.Checks.{all_pass}
use Rattle.rows.specs.declared.Book.{Book}
use Rattle.calls.specs.Outcome.{Outcome}
use Rattle.calls.specs.Calls.{make_answer}
use Rattle.history.specs.History.{BookCall, open_lots, close_lots, pair_units, split_units, turn_day, step, checks_of, made, run, accepted}
use Rattle.history.specs.Code.{Functions, Meet, program_of}
use Rattle.history.specs.Demand.{AsCounted, Demand3}
use Rattle.history.proofs.HistoryLaws.{history, demand_3}
use Rattle.history.specs.SameLaws.{same_counts}

-- Calls after calls.
module _ (program : Book → BookCall → Outcome) where
  pub run_then : (b : Book) (cs ds : List BookCall) → run program b (cs ++ ds) ≡ run program (run program b cs) ds
  unfolding run
  run_then b [] ds = refl
  run_then b (c ∷ cs) ds = run_then (program b c).book cs ds

  pub accepted_then : (b : Book) (cs ds : List BookCall) → accepted program b (cs ++ ds) ≡ accepted program b cs ++ accepted program (run program b cs) ds
  unfolding run accepted
  accepted_then b [] ds = refl
  accepted_then b (c ∷ cs) ds =
      rw (accepted_then (program b c).book cs ds)
      (by_test (λ (t : Bool). pick t (c ∷ (accepted program (program b c).book cs ++ accepted program (run program b (c ∷ cs)) ds)) (accepted program (program b c).book cs ++ accepted program (run program b (c ∷ cs)) ds) ≡ pick t (c ∷ accepted program (program b c).book cs) (accepted program (program b c).book cs) ++ accepted program (run program b (c ∷ cs)) ds) (eqb (program b c).number 0)
      (λ q. refl)
      (λ q. refl))

-- A program whose every answer is the one that the contracts name.
module _ (program : Book → BookCall → Outcome) (meets : (b : Book) (c : BookCall) → program b c ≡ step b c) where
  run_same : (b : Book) (cs : List BookCall) → run program b cs ≡ run step b cs
  unfolding run
  run_same b [] = refl
  run_same b (c ∷ cs) = ap (λ (o : Outcome). run program o.book cs) (meets b c) ∙ run_same (step b c).book cs

  accepted_same : (b : Book) (cs : List BookCall) → accepted program b cs ≡ accepted step b cs
  unfolding accepted
  accepted_same b [] = refl
  accepted_same b (c ∷ cs) = rw (meets b c, accepted_same (step b c).book cs)

  pub contracts_suffice : Demand3 program
  contracts_suffice =
      record {
        counted = λ account identity day calls e. rw (run_same (made account identity day) calls, accepted_same (made account identity day) calls) (history account identity day calls e);
        accepts = λ b c e. rw (meets b c) (demand_3.accepts b c e);
        accepts_only = λ b c e. demand_3.accepts_only b c (rw (meets b c) at e);
        refused_keeps = λ b c e. rw (meets b c) (demand_3.refused_keeps b c e);
      }

-- So functions that meet the contracts of the code are a program that meets demand 3.
module _ (f : Functions) (meet : Meet f) where
  pub meets_step : (b : Book) (c : BookCall) → program_of f b c ≡ step b c
  unfolding program_of step
  meets_step b (open_lots s d lots) = meet.open_meets b s d lots
  meets_step b (close_lots s d lots) = meet.close_meets b s d lots
  meets_step b (pair_units p) = meet.pair_meets b p
  meets_step b (split_units p) = meet.split_meets b p
  meets_step b (turn_day day) = meet.turn_meets b day

  pub functions_suffice : Demand3 (program_of f)
  functions_suffice = contracts_suffice (program_of f) meets_step

-- A program that meets demand 3.
accepts_as : (program : Book → BookCall → Outcome) → Demand3 program → (b : Book) (c : BookCall) → eqb (program b c).number 0 ≡ all_pass (checks_of b c)
accepts_as program h b c =
    same_test (eqb (program b c).number 0) (all_pass (checks_of b c))
    (λ e. h.accepts_only b c (eqb-true (program b c).number 0 e))
    (λ e. eq-eqb (program b c).number 0 (h.accepts b c e))

-- Where it comes to our book whenever the same calls were accepted, it accepts the next call where ours does, and so all calls.
module _ (program : Book → BookCall → Outcome) (h : Demand3 program) (b : Book) (same : (cs : List BookCall) → accepted program b cs ≡ accepted step b cs → run program b cs ≡ run step b cs) where
  next_same : (cs : List BookCall) (c : BookCall) → accepted program b cs ≡ accepted step b cs → accepted program b (cs ++ (c ∷ [])) ≡ accepted step b (cs ++ (c ∷ []))
  unfolding accepted
  next_same cs c e =
      accepted_then program b cs (c ∷ [])
      ∙ rw (e, same cs e, accepts_as program h (run step b cs) c)
      (sym (accepted_then step b cs (c ∷ []) ∙ rw (accepts_as step demand_3 (run step b cs) c)))

  all_same : (cs ds : List BookCall) → accepted program b cs ≡ accepted step b cs → accepted program b (cs ++ ds) ≡ accepted step b (cs ++ ds)
  all_same cs [] e = rw (append-nil cs) e
  all_same cs (c ∷ ds) e = subst (λ (l : List BookCall). accepted program b l ≡ accepted step b l) (append_assoc cs (c ∷ []) ds) (all_same (cs ++ (c ∷ [])) ds (next_same cs c e))

-- On a made book it does, since the same counts are the same book.
module _ (program : Book → BookCall → Outcome) (h : Demand3 program) (account identity day : ℕ) (m : (make_answer account identity day).number ≡ 0) where
  counted_same : (cs : List BookCall) → accepted program (made account identity day) cs ≡ accepted step (made account identity day) cs → run program (made account identity day) cs ≡ run step (made account identity day) cs
  counted_same cs e =
      let ours = subst (λ (done : List BookCall). AsCounted account identity day done (run step (made account identity day) cs)) (sym e) (history account identity day cs m) in
      same_counts (h.counted account identity day cs m) ours (λ s d. refl) (λ p. refl) refl

  -- Demand 3 leaves one list of accepted calls and one book.
  pub one_list : (calls : List BookCall) → accepted program (made account identity day) calls ≡ accepted step (made account identity day) calls
  unfolding accepted
  one_list calls = all_same program h (made account identity day) counted_same [] calls refl

  pub one_book : (calls : List BookCall) → run program (made account identity day) calls ≡ run step (made account identity day) calls
  one_book calls = counted_same calls (one_list calls)
