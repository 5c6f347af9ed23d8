-- The lines of a book both ways: what is printed of a head, a holding and a pair is one line that says it, and the only line that says
-- it is the printed one.
use Rattle.std.specs.Prelude.{◌≡◌, refl, true, List, [], ◌∷◌, ◌++◌, ℕ, ◌<◌, ◌≤◌}
use Rattle.std.proofs.Common.{arith}
use Rattle.laws.specs.TruthLaws.{both_hold}
use Rattle.laws.specs.Text.{byte, bytes}
use Rattle.laws.specs.Bytes.{same_bytes}
use Rattle.laws.specs.Search.{every_line}
use Rattle.laws.specs.SearchLaws.{every_weaker}
use Rattle.dates.specs.Calendar.{is_day}
use Rattle.dates.specs.CalendarLaws.{day_fits}
use Rattle.series.specs.Checks.{good_series}
use Rattle.pairing.specs.PairLaws.{stands_kind}
use Rattle.rows.specs.declared.Holding.{Holding}
use Rattle.rows.specs.declared.Pair.{Pair}
use Rattle.rules.specs.Rules.{is_identity, good_holding, good_pair}
use Rattle.rules.specs.RuleLaws.{holding_is, pair_is, counts_are, identity_between}
use Rattle.lines.specs.declared.Asked.{Asked}
use Rattle.lines.specs.declared.Cell.{Cell}
use Rattle.lines.specs.Pieces.{tab, lf, more, split_on}
use Rattle.lines.specs.Fields.{cells_of}
use Rattle.lines.specs.Texts.{tabbed, line_text}
use Rattle.lines.specs.PieceLaws.{lacks, plain, plain_lacks, line_cut, fields_are}
use Rattle.lines.specs.FieldLaws.{Reads, no_fields, number_reads, account_reads, date_reads, mark_reads, series_reads, series_is, Formed, none, next, number_back, account_back, date_back, mark_back, series_back}
use Rattle.printed.specs.Printed.{head_text, holding_text, pair_text}
use Rattle.book_lines.specs.Lines.{head_form, holding_form, pair_form, Line, head, holding, pair, formless, head_from, holding_from, pair_from, line_in, line_from, book_line}

-- a text of one line, which says x
pub record Says (text : List ℕ) (x : Line) : Type 0 where
  pub body : List ℕ
  pub cut : (rest : List ℕ) → split_on lf (text ++ rest) ≡ more body (split_on lf rest)
  pub says : book_line body ≡ x

-- An identity is a byte above LF.
identity_above : (identity : ℕ) → is_identity identity ≡ true → lf < identity
identity_above identity e = let h = identity_between identity e in omega arith

-- The line of a letter and printed fields says what its fields say.
line_says : {ks : List Asked} {fs : List (List ℕ)} {cs : List Cell} (letter : ℕ) (x : Line) → plain (letter ∷ []) ≡ true → Reads ks fs cs → line_in (letter ∷ []) fs ≡ x → Says (line_text letter fs) x
unfolding line_text book_line line_from every_line
line_says {ks} {fs} letter x p r e =
    record {
      body = letter ∷ tabbed fs;
      cut = λ rest. line_cut letter fs rest (all lf (omega arith));
      says = rw (fields_are (letter ∷ []) fs (all tab (omega arith))) e;
    }
  where
    all : (c : ℕ) → c ≤ lf → every_line (lacks c) ((letter ∷ []) ∷ fs) ≡ true
    all c h = every_weaker plain (lacks c) (plain_lacks c h) ((letter ∷ []) ∷ fs) (both_hold p r.plain_fields)

pub head_says : (account identity day : ℕ) → account ≤ 9999999 → is_identity identity ≡ true → is_day day ≡ true → Says (head_text account identity day) (head account identity day)
unfolding head_text line_in head_from head_form same_bytes plain every_line
head_says account identity day h i d =
    let fits = day_fits day d in
    let r = account_reads (mark_reads (date_reads no_fields day (omega arith)) identity (identity_above identity i)) account (omega arith) in
    line_says (byte "A") _ refl r (rw (r.form, r.cells))

pub holding_says : (h : Holding) → good_holding h ≡ true → Says (holding_text h) (holding h)
unfolding holding_text line_in holding_from holding_form same_bytes plain every_line
holding_says h e =
    let g = holding_is h e in
    let r = series_reads (number_reads (number_reads no_fields h.short (omega arith)) h.long (omega arith)) h.series g.series_good in
    line_says (byte "H") _ refl r (rw (r.form, r.cells, series_is h.series))

pub pair_says : (p : Pair) → good_pair p ≡ true → Says (pair_text p) (pair p)
unfolding pair_text line_in pair_from pair_form same_bytes plain every_line
pair_says p e =
    let g = pair_is p e in
    let c = counts_are p.r1 p.r2 p.units g.counts in
    let k = stands_kind p.kind p.first p.second p.r1 p.r2 g.standing in
    let counts = number_reads (number_reads (number_reads no_fields p.units (omega arith)) p.r2 (omega arith)) p.r1 (omega arith) in
    let legs = series_reads (series_reads counts p.second g.second_good) p.first g.first_good in
    let r = number_reads legs p.kind (omega arith) in
    line_says (byte "M") _ refl r (rw (r.form, r.cells, series_is p.first, series_is p.second))

-- Back: what a line says, where it passes its checks, is printed as this line. A formless line says nothing.
unfoldable pub Back : List ℕ → Line → Type 0
Back line (head account identity day) = is_identity identity ≡ true → line ++ (lf ∷ []) ≡ head_text account identity day
Back line (holding h) = good_series h.series ≡ true → line ++ (lf ∷ []) ≡ holding_text h
Back line (pair p) = good_series p.first ≡ true → good_series p.second ≡ true → line ++ (lf ∷ []) ≡ pair_text p
Back line formless = Unit

module _ (line : List ℕ) where
  pub head_printed : (fs : List (List ℕ)) → line ≡ bytes "A" ++ tabbed fs → Formed head_form fs → Back line (head_from (cells_of head_form fs))
  unfolding Back head_form head_from cells_of head_text line_text
  head_printed fs is (next {f = a} ra (next {f = b} rb (next {f = c} rc none))) i = rw (is, (account_back a ra).0, mark_back b (identity_above _ i), (date_back c rc).0)

  pub holding_printed : (fs : List (List ℕ)) → line ≡ bytes "H" ++ tabbed fs → Formed holding_form fs → Back line (holding (holding_from (cells_of holding_form fs)))
  unfolding Back holding_form holding_from cells_of holding_text line_text
  holding_printed fs is (next {f = a} ra (next {f = b} rb (next {f = c} rc (next {f = d} rd (next {f = e} re (next {f = f} rf none)))))) g =
      rw (is, series_back a b c d rb rd g, (number_back e re).0, (number_back f rf).0)

  pub pair_printed : (fs : List (List ℕ)) → line ≡ bytes "M" ++ tabbed fs → Formed pair_form fs → Back line (pair (pair_from (cells_of pair_form fs)))
  unfolding Back pair_form pair_from cells_of pair_text line_text
  pair_printed fs is (next {f = k} rk (next {f = a} ra (next {f = b} rb (next {f = c} rc (next {f = d} rd (next {f = e} re (next {f = f} rf (next {f = g} rg (next {f = h} rh (next {f = r} rr (next {f = s} rs (next {f = u} ru none)))))))))))) g1 g2 =
      rw (is, (number_back k rk).0, series_back a b c d rb rd g1, series_back e f g h rf rh g2, (number_back r rr).0, (number_back s rs).0, (number_back u ru).0)
