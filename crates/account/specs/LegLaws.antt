-- Laws of the legs of pairs (document 01, "Rates and amounts"): each leg of a pair of a sound book has its row among the holdings, and its quote is
-- that row's.
use Rattle.std.specs.Prelude.{◌≡◌, true, List, ℕ, ◌<◌, get_or}
use Rattle.std.proofs.Common.{ap, ◌∙◌, get_or-take}
use Rattle.std.proofs.Math.Path.{subst}
use native.Mathlib.Omega.{arith}
use Rattle.std.proofs.Math.ListN.{length}
use Rattle.laws.specs.SearchLaws.{every_at}
use Rattle.rows.specs.declared.Pair.{Pair}
use Rattle.rows.specs.declared.Book.{Book}
use Rattle.rows.specs.Book.{pairs_of}
use Rattle.rules.specs.Rules.{good_pair}
use Rattle.rules.specs.Facts.{Sound}
use Rattle.rules.specs.RuleLaws.{pairs_good, pairs_count}
use Rattle.sound.specs.Walk.{no_pair, Walkable}
use Rattle.quotes.specs.declared.Quote.{Quote}
use Rattle.sheets.specs.View.{View}
use Rattle.quotes.specs.Quotes.{no_quote, quote_of}
use Rattle.account.specs.Walk.{QuotesAre}

-- The pair j is good, and the quotes of its legs stand in their rows.
pub record LegsFound (v : View) (quotes : List Quote) (firsts seconds : List ℕ) (j : ℕ) (p : Pair) : Type 0 where
  pub first_stands : get_or firsts j 0 < 128
  pub first_quote : get_or quotes (get_or firsts j 0) no_quote ≡ quote_of v p.first
  pub second_stands : get_or seconds j 0 < 128
  pub second_quote : get_or quotes (get_or seconds j 0) no_quote ≡ quote_of v p.second
  pub good : good_pair p ≡ true

module _ {v : View} {b : Book} {quotes : List Quote} {firsts seconds : List ℕ} (s : Sound b) (q : QuotesAre v b.holdings b.held quotes) (l : Walkable b.holdings b.held b.pairs b.paired firsts seconds) (j : ℕ) (lt : j < b.paired) where
  pair_good : good_pair (get_or b.pairs j no_pair) ≡ true
  unfolding pairs_of
  pair_good =
      let inside : j < length (pairs_of b) = let c = pairs_count s in omega arith in
      subst (λ (p : Pair). good_pair p ≡ true) (get_or-take b.paired b.pairs j no_pair lt) (every_at good_pair (pairs_of b) j no_pair (pairs_good s) inside)

  pub legs_found_lem : LegsFound v quotes firsts seconds j (get_or b.pairs j no_pair)
  legs_found_lem =
      let few = s.holdings_sound_lem.few in
      let x = l.first_rows j lt in
      let y = l.second_rows j lt in
      record {
        first_stands = omega (arith, x.0);
        first_quote = q.are (get_or firsts j 0) x.0 ∙ ap (quote_of v) x.1;
        second_stands = omega (arith, y.0);
        second_quote = q.are (get_or seconds j 0) y.0 ∙ ap (quote_of v) y.1;
        good = pair_good;
      }
