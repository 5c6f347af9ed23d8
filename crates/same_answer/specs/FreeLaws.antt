-- Document 01, "Rates and amounts": "Free long options cost nothing". A row of an option needs and comes to what its short lots do.
use Rattle.std.specs.Prelude.{◌≡◌, refl, false, ℕ, eqb}
use Rattle.std.proofs.Common.{ap, sym, ◌∙◌, mul-zero}
use mathlib.Core.List.{[]}
use Rattle.laws.specs.Truth.{pick}
use Rattle.series.specs.declared.Series.{Series}
use Rattle.series.specs.Natures.{is_future}
use Rattle.levels.specs.Levels.{flat}
use Rattle.rows.specs.declared.Holding.{Holding}
use Rattle.sheets.specs.View.{View}
use Rattle.quotes.specs.Quotes.{quote_of}
use Rattle.account.specs.Needed.{charged_lots, lines_of, needed_by_holding}
use Rattle.account.specs.Margin.{times, holding_margin}

-- Of an option the short lots are charged.
charged_short : (h : Holding) → is_future h.series.nature ≡ false → charged_lots h ≡ h.short
unfolding charged_lots
charged_short h option = rw option

-- So what a row of an option needs and comes to goes by its series and its short lots,
module _ (h k : Holding) (series : h.series ≡ k.series) (short : h.short ≡ k.short) (option : is_future k.series.nature ≡ false) where
  charged_same : charged_lots h ≡ charged_lots k
  charged_same = charged_short h (ap (λ (s : Series). is_future s.nature) series ∙ option) ∙ short ∙ sym (charged_short k option)

  pub needed_same : needed_by_holding h ≡ needed_by_holding k
  unfolding needed_by_holding
  needed_same = λ i. pick (eqb (charged_same i) 0) [] (lines_of (series i))

  pub margin_same : (v : View) → holding_margin v h ≡ holding_margin v k
  unfolding holding_margin
  margin_same v = λ i. times (charged_same i) (quote_of v (series i)).lot.margin

module _ (h : Holding) (option : is_future h.series.nature ≡ false) where
  -- whatever its long lots are,
  pub long_needs : (n : ℕ) → needed_by_holding (record { series = h.series; long = n; short = h.short }) ≡ needed_by_holding h
  long_needs n = needed_same (record { series = h.series; long = n; short = h.short }) h refl refl option

  pub long_costs : (n : ℕ) (v : View) → holding_margin v (record { series = h.series; long = n; short = h.short }) ≡ holding_margin v h
  long_costs n = margin_same (record { series = h.series; long = n; short = h.short }) h refl refl option

  -- and with no short lots it needs no line and costs nothing.
  module _ (none : h.short ≡ 0) where
    pub free_needs : needed_by_holding h ≡ []
    unfolding needed_by_holding
    free_needs = rw (charged_short h option ∙ none)

    pub free_costs : (v : View) → holding_margin v h ≡ flat 0
    unfolding holding_margin
    free_costs v = rw (charged_short h option ∙ none) (simp mul-zero)

pub free_long : (v : View) (h : Holding) → is_future h.series.nature ≡ false → h.short ≡ 0 → (needed_by_holding h ≡ []) × (holding_margin v h ≡ flat 0)
free_long v h option none = (free_needs h option none, free_costs h option none v)
