-- Types, finite types, and defaults. Assumes nothing.
use Rattle.std.specs.Prelude.{Bool, true, false, not, ◌&&◌, ◌||◌, List, [], ◌∷◌, map, ℕ, zero, suc, ◌*◌, eqb, pos, length, get_or}
use Rattle.std.proofs.Math.Option.{Option, none, some}
use Rattle.laws.specs.Lists.{all, any, from}
use Rattle.guard.specs.Message.{Message, Message.number, Message.made, to_parts, no_message}

-- a variant is the list of its field types
abbrev pub Variant : Type 0
Variant = List ℕ

-- "V = 0 is a number type, whose messages are all the whole numbers. Otherwise V variants follow"
abbrev pub Types : Type 0
Types = List (List Variant)

abbrev pub variants_of : Types → ℕ → List Variant
variants_of ts t = get_or ts t []

abbrev pub fields_of : Types → ℕ → ℕ → Variant
fields_of ts t v = get_or (variants_of ts t) v []

abbrev pub is_number : Types → ℕ → Bool
is_number ts t = eqb (length (variants_of ts t)) 0

abbrev pub field_type : Types → ℕ → ℕ → ℕ → ℕ
field_type ts t v p = get_or (fields_of ts t v) p 0

-- ---- finite types

-- "A type is finite exactly if all its variants are, and a variant exactly if all its field types are,
-- reached in finitely many rounds; number types are infinite."
-- The first argument is the rounds that are left: a type's test and a variant's each take one.
abbrev mutual
  pub finite_type : ℕ → Types → ℕ → Bool
  finite_type zero ts t = false
  finite_type (suc k) ts t = not (is_number ts t) && all (λ fs. finite_variant k ts fs) (variants_of ts t)

  pub finite_variant : ℕ → Types → Variant → Bool
  finite_variant zero ts fs = eqb (length fs) 0
  finite_variant (suc k) ts fs = all (λ t. finite_type k ts t) fs

-- each second round finds a new finite type or there is none left, so twice as many rounds as types suffice
abbrev pub finite : Types → ℕ → Bool
finite ts t = finite_type (2 * length ts) ts t

-- ---- defaults

-- the default of each type that has one yet
abbrev pub Defaults : Type 0
Defaults = List (Option Message)

abbrev pub cons_both : {A : Type 0} → Option A → Option (List A) → Option (List A)
cons_both none ms = none
cons_both (some m) none = none
cons_both (some m) (some ms) = some (m ∷ ms)

-- the defaults of the types given, where all have one
abbrev pub defaults_of : Defaults → List ℕ → Option (List Message)
defaults_of ds [] = some []
defaults_of ds (t ∷ ts) = cons_both (get_or ds t none) (defaults_of ds ts)

-- "takes the lowest such variant over those defaults"; variants are counted from v
abbrev pub lowest_ready : Defaults → ℕ → ℕ → List Variant → Option Message
lowest_ready ds t v [] = none
lowest_ready ds t v (fs ∷ vs) = elim (defaults_of ds fs) [ some ms ↦ some (made t v (to_parts ms)) | none ↦ lowest_ready ds t (suc v) vs ]

-- "Defaults: a number type has 0."
abbrev pub first_default : ℕ → List Variant → Option Message
first_default t [] = some (number t (pos 0))
first_default t (v ∷ vs) = none

-- a type keeps the default that it has
abbrev pub next_default : Defaults → ℕ → List Variant → Option Message → Option Message
next_default ds t vs (some m) = some m
next_default ds t vs none = lowest_ready ds t 0 vs

-- "In each round, every type without a default, having a variant whose field types all got theirs in earlier
-- rounds, takes the lowest such variant over those defaults."
abbrev pub default_rounds : ℕ → Types → Defaults
default_rounds zero ts = map (λ t. first_default t (variants_of ts t)) (from (length ts) 0)
default_rounds (suc k) ts =
    let ds = default_rounds k ts in map (λ t. next_default ds t (variants_of ts t) (get_or ds t none)) (from (length ts) 0)

-- each round gives some type its default or none ever will, so as many rounds as types suffice
abbrev pub defaults : Types → Defaults
defaults ts = default_rounds (length ts) ts

abbrev pub or_none : Option Message → Message
or_none none = no_message
or_none (some m) = m

abbrev pub default_of : Types → ℕ → Message
default_of ts t = or_none (get_or (defaults ts) t none)

-- "A field read from a message of another variant gives the default of the field's type."
abbrev pub absent_field : Types → ℕ → ℕ → ℕ → Message
absent_field ts t v p = default_of ts (field_type ts t v p)

-- ---- the questions on types

abbrev pub is_some : Option Message → Bool
is_some none = false
is_some (some m) = true

-- question 8: "does every type have a default (below)?"
abbrev pub all_defaults : Types → Bool
all_defaults ts = all is_some (defaults ts)

abbrev pub infinite_field : Types → Variant → Bool
infinite_field ts fs = any (λ t. not (finite ts t)) fs

-- question 9: "does every variant with fields have a field of infinite type?"
abbrev pub infinite_fields : Types → Bool
infinite_fields ts = all (all (λ fs. eqb (length fs) 0 || infinite_field ts fs)) ts
