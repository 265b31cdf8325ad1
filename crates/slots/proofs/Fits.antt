-- Single slots of arrays that fit, as lemmas that a tactic applies. Assumes nothing.
use mathlib.Core.List.{List}
use Prim.Native.Nat.{ℕ, ◌≤◌, ◌<◌}
use Rattle.arrays.specs.Slots.{ReadsFit, ShapesFit, SortsFit, many_at, owner_at, part_at, read_default, read_term, sort_at}

module _ (shapes : List ℕ) (k : ℕ) (fit : ShapesFit shapes) (h : k < 30) where
  pub owner_fits : owner_at shapes k < 96
  owner_fits = fit.owner k h

  pub many_fits : many_at shapes k ≤ 3
  many_fits = fit.many k h

  pub part_fits : (p : ℕ) → p < 3 → part_at shapes k p < 96
  part_fits p l = fit.part k p h l

module _ (reads : List ℕ) (k : ℕ) (fit : ReadsFit reads) (h : k < 24) where
  pub term_fits : read_term reads k < 96
  term_fits = fit.term k h

  pub default_fits : read_default reads k < 96
  default_fits = fit.default k h

pub sort_fits : (sorts : List ℕ) (x : ℕ) → SortsFit sorts → sort_at sorts x < 7
sort_fits sorts x fit = fit.sort x

pub ruleset slots_fit = (owner_fits, many_fits, part_fits, term_fits, default_fits, sort_fits)
