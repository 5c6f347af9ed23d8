-- Laws of one call line: what its fields say as they are read, one behind the other, is what the line says, and how a book answers it.
use Rattle.std.specs.Prelude.{◌≡◌, Bool, List, [], ◌∷◌, ℕ, ◌-◌, ◌≤◌, ◌<◌, eqb, ltb, get_or, take, drop, replicate, Option, Some, None, is_some, unwrap_or}
use Rattle.std.proofs.Math.Path.{refl, ap}
use Rattle.std.proofs.Common.{sym, ◌∙◌, arith, lt-ltb, le-ltb, eqb-true}
use Rattle.std.proofs.Math.Logic.{⊎_elim}
use Rattle.std.proofs.Math.Bool.{true, false}
use Rattle.std.proofs.Math.Decide.{dec_lt}
use Rattle.std.proofs.lemmas.Bool.{eqb-false}
use Rattle.std.proofs.Math.ListN.{length, get_or-eq_default}
use Rattle.std.proofs.lemmas.List.{length-replicate}
use Rattle.laws.specs.Truth.{pick, both, either}
use Rattle.laws.specs.TruthLaws.{by_test, both_true, either_true, within_true, false_unless, clash}
use Rattle.series.specs.declared.Side.{Side}
use Rattle.series.specs.declared.Side.TheVariants.{Long, Short}
use Rattle.rows.specs.declared.Book.{Book}
use Rattle.dates.specs.Calendar.{is_day}
use Rattle.rows.specs.Book.{empty_book, no_book}
use Rattle.rules.specs.Rules.{account_fits, is_identity}
use Rattle.laws.specs.Checks.{first_failing, all_pass}
use Rattle.calls.specs.Outcome.{Outcome}
use Rattle.calls.specs.Calls.{outcome, answered, make_checks, make_answer, open_answer, close_answer, pair_answer, split_answer, turn_answer}
use Rattle.history.specs.History.{BookCall, step}
use Rattle.lines.specs.declared.Asked.{Asked}
use Rattle.lines.specs.Pieces.{lf, next_of, stop_of}
use Rattle.lines.specs.Fields.{no_cell, has_form, cells_of}
use Rattle.lines.specs.CutLaws.{next_low, fields_behind}
use Rattle.lines.specs.StopLaws.{stop_high, line_at, stop_within, text_in_line}
use Rattle.lines.specs.LoopLaws.{InLine, line_begins, row_fields}
use Rattle.lines.specs.Behind.{chain_behind}
use Rattle.lines.specs.BehindLaws.{Unformed, behind_off, chain_done, chain_wrong, chain_ends, chain_over}
use Rattle.book_lines.specs.Lines.{head_form, pair_form}
use Rattle.call_lines.specs.declared.Name.{Name}
use Rattle.call_lines.specs.declared.Name.TheVariants as name
use Rattle.call_lines.specs.Lines.{Line, call, formless, name_in, lots_form, day_form, form_of, sided, lots_in, said_by, line_by, line_from, call_line}
use Rattle.call_lines.specs.Work.{answer_to}
use Rattle.call_lines.specs.Facts.{MakeLine, LotsLine, UnitsLine, DayLine, cells_behind, formed, is_side, side_of, make_said, make_behind, lots_said, lots_behind, units_behind, day_behind, line_behind, said_at}

-- No form has more than twelve fields.
form_few : (n : Name) → length (form_of n) ≤ 12
unfolding form_of head_form lots_form pair_form day_form
form_few name.Nothing = omega arith
form_few name.Make = omega arith
form_few name.Open = omega arith
form_few name.Close = omega arith
form_few name.Pair = omega arith
form_few name.Split = omega arith
form_few name.Turn = omega arith

-- Behind the end of the text nothing has a form.
end_unformed : (form : List Asked) (t : List ℕ) (at : ℕ) → length t ≤ at → formed form t at ≡ false
unfolding formed chain_behind
end_unformed [] t at h = rw (get_or-eq_default t 0 h)
end_unformed (k ∷ ks) t at h = rw (behind_off k t at (λ e. let z = get_or-eq_default t 0 h in omega arith))

-- the name of the line that begins at `at`
abbrev pub name_text : List ℕ → ℕ → List ℕ
name_text t at = take (stop_of t at - at) (drop at t)

-- It ends in the text.
pub name_ends : (t : List ℕ) (at : ℕ) {stop : ℕ} → stop ≡ stop_of t at → at ≤ length t → stop ≤ length t
name_ends t at is low = let h = stop_high t at low in omega arith

-- A line whose name ends inside the text says what the fields behind it do, if they have the form and then an LF stands.
module _ (t : List ℕ) (at : ℕ) (n : Name) (named : n ≡ name_in (name_text t at)) (lt : stop_of t at < length t) where
  behind : List (List ℕ)
  behind = fields_behind (line_at t at) (stop_of t at - at)

  opens : InLine (λ (f : List ℕ). 0) (λ (l : ℕ). form_of n) 12 t at (stop_of t at) 0 (replicate 12 no_cell) 0 (stop_of t at)
  opens = line_begins t at (replicate 12 no_cell) refl lt refl (length-replicate 12 no_cell)

  name_is : name_text t at ≡ take (stop_of t at - at - 0) (drop 0 (line_at t at))
  name_is = let z : at - at ≡ 0 = omega arith in rw z at (text_in_line t at {from = at} (omega arith) (next_low t at lf) {s = stop_of t at} refl)

  line_is : call_line (line_at t at) ≡ pick (has_form (form_of n) behind) (said_by n (cells_of (form_of n) behind)) formless
  unfolding call_line line_from line_by behind
  line_is = ap line_from (row_fields (line_at t at) opens.fields.first_is) ∙ rw (← name_is, ← named)

  line_formed : formed (form_of n) t (stop_of t at) ≡ true → said_at t at ≡ said_by n (cells_behind (form_of n) t (stop_of t at))
  unfolding formed said_at behind
  line_formed e =
      let h = both_true (chain_behind (form_of n) t (stop_of t at)).right _ e in
      let d = chain_done (form_few n) (form_of n) opens refl h.0 in
      let ends = chain_ends (form_few n) d (eqb-true _ lf h.1) in
      let inside : next_of t at lf < length t = rw ends.0 at d.line.inside in
      rw (lt-ltb _ _ inside) (line_is ∙ rw (ends.1.0, ends.1.1))

  line_unformed : formed (form_of n) t (stop_of t at) ≡ false → said_at t at ≡ formless
  unfolding formed said_at behind
  line_unformed e =
      ⊎_elim
      (λ (h : length t ≤ next_of t at lf). rw (le-ltb _ _ h))
      (λ (h : has_form (form_of n) (fields_behind (line_at t at) (stop_of t at - at)) ≡ false). rw (line_is, h) (by_test (λ (b : Bool). pick b formless formless ≡ formless) (ltb (next_of t at lf) (length t)) (λ q. refl) (λ q. refl)))
      (by_test (λ (b : Bool). (chain_behind (form_of n) t (stop_of t at)).right ≡ b → both b (eqb (get_or t (chain_behind (form_of n) t (stop_of t at)).stop 0) lf) ≡ false → Unformed t at (form_of n) (stop_of t at)) (chain_behind (form_of n) t (stop_of t at)).right
      (λ q r f. chain_over (form_few n) (chain_done (form_few n) (form_of n) opens refl r) (eqb-false _ lf f))
      (λ q r f. chain_wrong (form_few n) (form_of n) opens refl r)
      refl e)

-- A line without its LF has not the form.
pub unended : (t : List ℕ) (at : ℕ) → length t ≤ next_of t at lf → said_at t at ≡ formless
unfolding said_at
unended t at h = rw (le-ltb _ _ h)

-- So it says what is read behind its name, wherever that ends.
pub said_behind : (t : List ℕ) (at : ℕ) (n : Name) → n ≡ name_in (name_text t at) → line_behind n t (stop_of t at) ≡ said_at t at
unfolding line_behind
said_behind t at n named = go (dec_lt (stop_of t at) (length t))
  where
    go : Dec (stop_of t at < length t) → pick (formed (form_of n) t (stop_of t at)) (said_by n (cells_behind (form_of n) t (stop_of t at))) formless ≡ said_at t at
    go (yes lt) =
        by_test (λ (b : Bool). formed (form_of n) t (stop_of t at) ≡ b → pick b (said_by n (cells_behind (form_of n) t (stop_of t at))) formless ≡ said_at t at) (formed (form_of n) t (stop_of t at))
        (λ q e. sym (line_formed t at n named lt e))
        (λ q e. sym (line_unformed t at n named lt e))
        refl
    go (no le) =
        let h = stop_within t at {from = at} (omega arith) (next_low t at lf) in
        let end : length t ≤ stop_of t at = omega arith in
        rw (end_unformed (form_of n) t (stop_of t at) end) (sym (unended t at (omega arith)))

-- A line with the form is answered as what it says, and one without by 1.
module _ (first : Bool) (b : Book) where
  by_form : (f : Bool) (x : Line) → pick f (answer_to first b x) (outcome 1 b) ≡ answer_to first b (pick f x formless)
  unfolding answer_to
  by_form true x = refl
  by_form false x = refl

  by_side : (f : Bool) (mark : ℕ) (of : Side → BookCall) → pick (both f (is_side mark)) (answer_to first b (call (of (side_of mark)))) (outcome 1 b) ≡ answer_to first b (pick f (sided mark of) formless)
  unfolding answer_to is_side side_of sided
  by_side f mark of =
      by_test (λ (g : Bool). pick (both g (either (eqb mark 76) (eqb mark 83))) (answer_to first b (call (of (pick (eqb mark 76) Long Short)))) (outcome 1 b) ≡ answer_to first b (pick g (pick (eqb mark 76) (call (of Long)) (pick (eqb mark 83) (call (of Short)) formless)) formless)) f
      (λ q.
      by_test (λ (l : Bool). pick (either l (eqb mark 83)) (answer_to first b (call (of (pick l Long Short)))) (outcome 1 b) ≡ answer_to first b (pick l (call (of Long)) (pick (eqb mark 83) (call (of Short)) formless))) (eqb mark 76)
      (λ r. refl)
      (λ r. by_form (eqb mark 83) (call (of Short))))
      (λ q. refl)

-- A client code that is no byte is as good as none.
far : (mark : ℕ) → ((48 ≤ mark) × (mark ≤ 90) → ⊥) → is_identity mark ≡ false
far mark n =
    false_unless (is_identity mark) (λ e.
    ⊎_elim
    (λ h. let k = within_true 48 57 mark h in n (k.0, omega (arith, k.1)))
    (λ h. let k = within_true 65 90 mark h in n (omega (arith, k.0), k.1))
    (either_true _ _ e))

no_code_lem : (account i j day : ℕ) → is_identity i ≡ false → is_identity j ≡ false → make_answer account i day ≡ make_answer account j day
unfolding make_answer make_checks answered first_failing all_pass
no_code_lem account i j day e f =
    rw (e, f)
    (by_test (λ (a : Bool). outcome (pick (both a false) (pick (is_day day) 0 5) 2) (pick (both (both a false) (both (is_day day) true)) (empty_book account i day) no_book) ≡ outcome (pick (both a false) (pick (is_day day) 0 5) 2) (pick (both (both a false) (both (is_day day) true)) (empty_book account j day) no_book)) (account_fits account)
    (λ q. refl)
    (λ q. refl))

byte_enough : (account mark day : ℕ) → make_answer account (pick (ltb mark 256) mark 0) day ≡ make_answer account mark day
byte_enough account mark day = go (dec_lt mark 256)
  where
    go : Dec (mark < 256) → make_answer account (pick (ltb mark 256) mark 0) day ≡ make_answer account mark day
    go (yes h) = rw (lt-ltb mark 256 h)
    go (no h) = let le : 256 ≤ mark = omega arith in rw (le-ltb mark 256 le) (no_code_lem account 0 mark day (far 0 (λ k. omega arith)) (far mark (λ k. omega arith)))

-- What has the form stands there.
pub there : {A : Type 0} (f : Bool) (a : A) {x : Option A} → x ≡ pick f (Some a) None → is_some x ≡ f
there true a e = ap is_some e
there false a e = ap is_some e

-- What has the form is told and answered as it says; what has not is told by nothing, and answered by 1.
module _ (b : Book) {A : Type 0} {o : Outcome} where
  pub told : (f : Bool) (a : A) {m : A} (by : A → Outcome) → Some m ≡ pick f (Some a) None → o ≡ by m → o ≡ pick f (by a) (outcome 1 b)
  told true a by e h = h ∙ ap (λ (x : Option A). by (unwrap_or x a)) e
  told false a by e h = absurd (clash refl (ap is_some e))

  pub untold : (f : Bool) (a : A) (p : Outcome) → None ≡ pick f (Some a) None → o ≡ outcome 1 b → o ≡ pick f p (outcome 1 b)
  untold true a p e h = absurd (clash (ap is_some e) refl)
  untold false a p e h = h

-- The answer to the line at `at`, by its name.
module _ (first : Bool) (b : Book) (t : List ℕ) (at : ℕ) {stop : ℕ} {n : Name} (is : stop ≡ stop_of t at) (named : n ≡ name_in (take (stop - at) (drop at t))) {o : Outcome} where
  answered_as : (k : Name) → n ≡ k → o ≡ answer_to first b (line_behind k t stop) → o ≡ answer_to first b (said_at t at)
  answered_as k e h = (rw is at h) ∙ ap (answer_to first b) (said_behind t at k (sym e ∙ rw is at named))

  pub no_call : n ≡ name.Nothing → o ≡ outcome 1 b → o ≡ answer_to first b (said_at t at)
  unfolding line_behind said_by answer_to
  no_call e h = answered_as name.Nothing e (h ∙ by_none (formed (form_of name.Nothing) t stop))
    where
      by_none : (f : Bool) → outcome 1 b ≡ answer_to first b (pick f formless formless)
      by_none true = refl
      by_none false = refl

  pub make_line : {m : MakeLine} → n ≡ name.Make → m ≡ make_behind t stop → o ≡ pick m.right (pick first (make_answer m.account (pick (ltb m.identity 256) m.identity 0) m.day) (outcome 3 b)) (outcome 1 b) → o ≡ answer_to first b (said_at t at)
  unfolding line_behind make_behind make_said form_of said_by answer_to
  make_line e m h = answered_as name.Make e (h ∙ rw (m, byte_enough) (by_form first b (formed head_form t stop) _))

  pub open_line : {l : LotsLine} → n ≡ name.Open → l ≡ lots_behind t stop → o ≡ pick l.right (open_answer b l.series l.side l.lots) (outcome 1 b) → o ≡ answer_to first b (said_at t at)
  unfolding line_behind lots_behind lots_said form_of said_by lots_in answer_to step
  open_line e l h = answered_as name.Open e (h ∙ rw l (by_side first b (formed lots_form t stop) _ _))

  pub close_line : {l : LotsLine} → n ≡ name.Close → l ≡ lots_behind t stop → o ≡ pick l.right (close_answer b l.series l.side l.lots) (outcome 1 b) → o ≡ answer_to first b (said_at t at)
  unfolding line_behind lots_behind lots_said form_of said_by lots_in answer_to step
  close_line e l h = answered_as name.Close e (h ∙ rw l (by_side first b (formed lots_form t stop) _ _))

  pub pair_line : {u : UnitsLine} → n ≡ name.Pair → u ≡ units_behind t stop → o ≡ pick u.right (pair_answer b u.pair) (outcome 1 b) → o ≡ answer_to first b (said_at t at)
  unfolding line_behind units_behind form_of said_by answer_to step
  pair_line e u h = answered_as name.Pair e (h ∙ rw u (by_form first b (formed pair_form t stop) _))

  pub split_line : {u : UnitsLine} → n ≡ name.Split → u ≡ units_behind t stop → o ≡ pick u.right (split_answer b u.pair) (outcome 1 b) → o ≡ answer_to first b (said_at t at)
  unfolding line_behind units_behind form_of said_by answer_to step
  split_line e u h = answered_as name.Split e (h ∙ rw u (by_form first b (formed pair_form t stop) _))

  pub turn_line : {d : DayLine} → n ≡ name.Turn → d ≡ day_behind t stop → o ≡ pick d.right (turn_answer b d.day) (outcome 1 b) → o ≡ answer_to first b (said_at t at)
  unfolding line_behind day_behind form_of said_by answer_to step
  turn_line e d h = answered_as name.Turn e (h ∙ rw d (by_form first b (formed day_form t stop) _))
