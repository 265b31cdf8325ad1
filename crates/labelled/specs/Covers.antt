-- Lists of the numbers that pass a test, and the terms that have a label. Assumes nothing: definitions.
use Rattle.std.specs.Prelude.{◌≡◌, Bool, true, false, not, ◌||◌, List, ℕ, ◌≤◌, ◌<◌, eqb, get_or}
use Rattle.std.specs.declared.option.Option.{Option}
use Rattle.std.specs.declared.option.Option.TheVariants.{None, Some}
use Rattle.laws.specs.Lists.{any, from}
use Rattle.arrays.specs.Slots.{sort_at}

-- the mask of a term's type holds a variant
unfoldable pub has_mask : List ℕ → List ℕ → ℕ → Bool
has_mask sorts masks x = not (eqb (get_or masks (sort_at sorts x) 0) 0)

-- "each term of variant type has a label": by the masks of all variants and of the fieldless ones, so that nothing has to be
-- known of the one to leave out what the other leaves out
unfoldable pub has_label : List ℕ → List ℕ → List ℕ → ℕ → Bool
has_label sorts full fieldless x = has_mask sorts full x || has_mask sorts fieldless x

-- Numbers below n in rising order, in the first places of a list; all that pass the test are among them.
pub record Covers (p : ℕ → Bool) (n : ℕ) (list : List ℕ) (many : ℕ) : Type 0 where
  pub few : many ≤ n
  pub below : (i : ℕ) → i < many → get_or list i 0 < n
  pub rising : (i j : ℕ) → i < j → j < many → get_or list i 0 < get_or list j 0
  pub every : (x : ℕ) → x < n → p x ≡ true → any (λ i. eqb (get_or list i 0) x) (from many 0) ≡ true

-- ... and no others; zeros behind.
pub record Lists (p : ℕ → Bool) (n : ℕ) (list : List ℕ) (many : ℕ) : Type 0 where
  pub covers : Covers p n list many
  pub passes : (i : ℕ) → i < many → p (get_or list i 0) ≡ true
  pub past : (i : ℕ) → many ≤ i → get_or list i 0 ≡ 0

-- the first call that says true, of calls for the numbers below n that a list has
abbrev pub FirstListed : (ℕ → Bool → Type 0) → (ℕ → Bool) → ℕ → Option ℕ → Type 0
FirstListed post listed n None = (x : ℕ) → x < n → listed x ≡ true → post x false
FirstListed post listed n (Some x) = (x < n) × post x true × ((y : ℕ) → y < x → listed y ≡ true → post y false)
