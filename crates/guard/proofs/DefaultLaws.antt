-- Defaults: what a round gives, that a default stays, induction over how defaults arise, and the form of a default. Assumes nothing.
use mathlib.Core.Path.{◌≡◌, refl, ap, sym, ◌∙◌, subst}
use mathlib.Core.Bool.{Bool, true, false}
use mathlib.Core.List.{List, [], ◌∷◌, map}
use Prim.Native.Nat.{ℕ, zero, suc, ◌+◌, ◌≤◌, ◌<◌, ◌-◌}
use native.Mathlib.Omega.{arith}
use lib.Dec.{eqb, ltb}
use lib.ListN.{length, get_or}
use borrow.Author.Tests.{ltb-true, ltb-false}
use mathlib.Core.Option.{Option, none, some}
use lib.IntN.{pos}
use native.Mathlib.Nat.{zero-add}
use Rattle.laws.proofs.Lists.{map-from-at, map-from_out, none-some}
use Rattle.guard.specs.File.{parts}
use Rattle.guard.specs.Meaning.{BelongAll, Belongs}
use Rattle.guard.specs.Message.{Message, Message.made, Message.number, to_parts}
use Rattle.guard.specs.Types.{Defaults, Types, Variant, cons_both, default_of, default_rounds, defaults, defaults_of, fields_of, first_default, lowest_ready, next_default, or_none, variants_of}

module _ (ts : Types) where
  -- only a type of the list has a default
  pub default-inside : (k t : ℕ) (m : Message) → get_or (default_rounds k ts) t none ≡ some m → t < length ts
  default-inside k t m e = go k (ltb t (length ts)) refl e
    where
      go : (k : ℕ) (b : Bool) → ltb t (length ts) ≡ b → get_or (default_rounds k ts) t none ≡ some m → t < length ts
      go k true q e = ltb-true _ _ q
      go zero false q e = absurd (none-some m (sym (map-from_out (λ t. first_default t (variants_of ts t)) (length ts) 0 t none (ltb-false t (length ts) q)) ∙ e))
      go (suc k) false q e =
          absurd (none-some m (sym (map-from_out (λ t. next_default (default_rounds k ts) t (variants_of ts t) (get_or (default_rounds k ts) t none)) (length ts) 0 t none (ltb-false t (length ts) q)) ∙ e))

  round_zero : (t : ℕ) → t < length ts → get_or (default_rounds 0 ts) t none ≡ first_default t (variants_of ts t)
  round_zero t h = map-from-at (λ t. first_default t (variants_of ts t)) (length ts) 0 t none h ∙ ap (λ (u : ℕ). first_default u (variants_of ts u)) (zero-add t)

  round_suc : (k t : ℕ) → t < length ts → get_or (default_rounds (suc k) ts) t none ≡ next_default (default_rounds k ts) t (variants_of ts t) (get_or (default_rounds k ts) t none)
  round_suc k t h =
      map-from-at (λ t. next_default (default_rounds k ts) t (variants_of ts t) (get_or (default_rounds k ts) t none)) (length ts) 0 t none h
      ∙ ap (λ (u : ℕ). next_default (default_rounds k ts) u (variants_of ts u) (get_or (default_rounds k ts) u none)) (zero-add t)

  -- a default stays
  kept : (k t : ℕ) (m : Message) → get_or (default_rounds k ts) t none ≡ some m → get_or (default_rounds (suc k) ts) t none ≡ some m
  kept k t m e = round_suc k t (default-inside k t m e) ∙ ap (next_default (default_rounds k ts) t (variants_of ts t)) e

  kept-many : (j k t : ℕ) (m : Message) → get_or (default_rounds k ts) t none ≡ some m → get_or (default_rounds (j + k) ts) t none ≡ some m
  kept-many zero k t m e = subst (λ (n : ℕ). get_or (default_rounds n ts) t none ≡ some m) (sym (zero-add k)) e
  kept-many (suc j) k t m e =
      let q : suc (j + k) ≡ suc j + k = omega arith in
      subst (λ (n : ℕ). get_or (default_rounds n ts) t none ≡ some m) q (kept (j + k) t m (kept-many j k t m e))

  final : (k t : ℕ) (m : Message) → k ≤ length ts → get_or (default_rounds k ts) t none ≡ some m → get_or (defaults ts) t none ≡ some m
  final k t m h e =
      let q : (length ts - k) + k ≡ length ts = omega arith in
      subst (λ (n : ℕ). get_or (default_rounds n ts) t none ≡ some m) q (kept-many (length ts - k) k t m e)

-- a relation between two lists of one length, element by element
pub data Each (P : ℕ → Message → Type 0) : List ℕ → List Message → Type 0 where
  each_nil : Each P [] []
  each_cons : {f : ℕ} {m : Message} {fs : List ℕ} {ms : List Message} → P f m → Each P fs ms → Each P (f ∷ fs) (m ∷ ms)

-- the lowest ready variant is one of the variants, over defaults
record Ready (ds : Defaults) (t v : ℕ) (vs : List Variant) (m : Message) : Type 0 where
  offset : ℕ
  inside : offset < length vs
  parts : List Message
  is_made : m ≡ made t (v + offset) (to_parts parts)
  over : defaults_of ds (get_or vs offset []) ≡ some parts

ready-is : (ds : Defaults) (t v : ℕ) (vs : List Variant) (m : Message) → lowest_ready ds t v vs ≡ some m → Ready ds t v vs m
ready-is ds t v [] m e = absurd (none-some m e)
ready-is ds t v (fs ∷ vs) m e = go (ready-is ds t (suc v) vs m) (defaults_of ds fs) refl e
  where
    go : (lowest_ready ds t (suc v) vs ≡ some m → Ready ds t (suc v) vs m) → (o : Option (List Message)) → defaults_of ds fs ≡ o
        → elim o [ some ms ↦ some (made t v (to_parts ms)) | none ↦ lowest_ready ds t (suc v) vs ] ≡ some m → Ready ds t v (fs ∷ vs) m
    go ih (some ms) q e =
        let x : made t v (to_parts ms) ≡ m = cc in
        let z : v ≡ v + 0 = omega arith in
        record { offset = 0; inside = omega arith; parts = ms; is_made = sym x ∙ ap (λ (w : ℕ). made t w (to_parts ms)) z; over = q }
    go ih none q e =
        let l : Ready ds t (suc v) vs m = ih e in
        let z : suc v + l.offset ≡ v + suc l.offset = omega arith in
        record { offset = suc l.offset; inside = omega (arith, l.inside); parts = l.parts; is_made = l.is_made ∙ ap (λ (w : ℕ). made t w (to_parts l.parts)) z; over = l.over }

-- What holds of 0 at number types, and of a variant over defaults of which it holds, holds of every default.
module _ (ts : Types) (P : ℕ → Message → Type 0)
    (of_number : (t : ℕ) → t < length ts → variants_of ts t ≡ [] → get_or (defaults ts) t none ≡ some (number t (pos 0)) → P t (number t (pos 0)))
    (of_variant : (t v : ℕ) (ms : List Message) → t < length ts → v < length (variants_of ts t) → get_or (defaults ts) t none ≡ some (made t v (to_parts ms))
    → Each P (fields_of ts t v) ms → P t (made t v (to_parts ms))) where
  each-default : (ds : Defaults) → ((t : ℕ) (m : Message) → get_or ds t none ≡ some m → P t m) → (fs : List ℕ) (ms : List Message) → defaults_of ds fs ≡ some ms → Each P fs ms
  each-default ds ih [] ms e = let z : [] ≡ ms = cc in subst (Each P []) z each_nil
  each-default ds ih (f ∷ fs) ms e = go (each-default ds ih fs) (get_or ds f none) (defaults_of ds fs) refl refl e
    where
      go : ((ms : List Message) → defaults_of ds fs ≡ some ms → Each P fs ms) → (a : Option Message) (b : Option (List Message))
          → get_or ds f none ≡ a → defaults_of ds fs ≡ b → cons_both a b ≡ some ms → Each P (f ∷ fs) ms
      go rest none b qa qb r = absurd (none-some ms r)
      go rest (some n) none qa qb r = absurd (none-some ms r)
      go rest (some n) (some ns) qa qb r = let z : n ∷ ns ≡ ms = cc in subst (Each P (f ∷ fs)) z (each_cons (ih f n qa) (rest ns qb))

  rounds : (k : ℕ) → k ≤ length ts → (t : ℕ) (m : Message) → get_or (default_rounds k ts) t none ≡ some m → P t m
  rounds zero hk t m e = go (variants_of ts t) refl (sym (round_zero ts t (default-inside ts 0 t m e)) ∙ e)
    where
      go : (vs : List Variant) → variants_of ts t ≡ vs → first_default t vs ≡ some m → P t m
      go [] q r =
          let x : number t (pos 0) ≡ m = cc in
          subst (P t) x (of_number t (default-inside ts 0 t m e) q (final ts 0 t (number t (pos 0)) hk (e ∙ ap some (sym x))))
      go (v ∷ vs) q r = absurd (none-some m r)
  rounds (suc k) hk t m e = go (rounds k (omega arith)) (get_or (default_rounds k ts) t none) refl (sym (round_suc ts k t (default-inside ts (suc k) t m e)) ∙ e)
    where
      go : ((t : ℕ) (m : Message) → get_or (default_rounds k ts) t none ≡ some m → P t m) → (o : Option Message) → get_or (default_rounds k ts) t none ≡ o
          → next_default (default_rounds k ts) t (variants_of ts t) o ≡ some m → P t m
      go ih (some n) q r = let x : n ≡ m = cc in ih t m (q ∙ ap some x)
      go ih none q r =
          let l : Ready (default_rounds k ts) t 0 (variants_of ts t) m = ready-is (default_rounds k ts) t 0 (variants_of ts t) m r in
          let x : m ≡ made t l.offset (to_parts l.parts) = l.is_made ∙ ap (λ (w : ℕ). made t w (to_parts l.parts)) (zero-add l.offset) in
          subst (P t) (sym x)
          (of_variant t l.offset l.parts (default-inside ts (suc k) t m e) l.inside (final ts (suc k) t (made t l.offset (to_parts l.parts)) hk (e ∙ ap some x))
          (each-default (default_rounds k ts) ih (fields_of ts t l.offset) l.parts l.over))

  pub default_ind : (t : ℕ) (m : Message) → get_or (defaults ts) t none ≡ some m → P t m
  default_ind = rounds (length ts) (omega arith)

-- a default is a message of its type
pub default-belongs : (ts : Types) (t : ℕ) (m : Message) → get_or (defaults ts) t none ≡ some m → Belongs ts m t
default-belongs ts =
    default_ind ts (λ t m. Belongs ts m t) (λ t h e q. (refl, ap (λ (vs : List Variant). eqb (length vs) 0) e)) (λ t v ms h hv q ps. (refl, hv, parts_belong ps))
  where
    parts_belong : {fs : List ℕ} {ms : List Message} → Each (λ t m. Belongs ts m t) fs ms → BelongAll ts (to_parts ms) fs
    parts_belong each_nil = tt
    parts_belong (each_cons p ps) = (p, parts_belong ps)

-- a default is the number 0, or a variant over the defaults of its fields
abbrev pub DefaultForm : Types → ℕ → Message → Type 0
DefaultForm ts t (number u z) = number u z ≡ number t (pos 0)
DefaultForm ts t (made u v ms) = made u v ms ≡ made t v (to_parts (map (default_of ts) (fields_of ts t v)))

pub default-is : (ts : Types) (t : ℕ) (m : Message) → get_or (defaults ts) t none ≡ some m → default_of ts t ≡ m
default-is ts t m e = ap or_none e

pub default_form : (ts : Types) (t : ℕ) (m : Message) → get_or (defaults ts) t none ≡ some m → DefaultForm ts t m
default_form ts t m e =
    (default_ind ts (λ t m. (default_of ts t ≡ m) × DefaultForm ts t m) (λ t h q d. (default-is ts t (number t (pos 0)) d, refl))
    (λ t v ms h hv d ps. (default-is ts t (made t v (to_parts ms)) d, ap (λ (ns : List Message). made t v (to_parts ns)) (sym (fields-are ps)))) t m e).1
  where
    fields-are : {fs : List ℕ} {ms : List Message} → Each (λ t m. (default_of ts t ≡ m) × DefaultForm ts t m) fs ms → map (default_of ts) fs ≡ ms
    fields-are each_nil = refl
    fields-are (each_cons {f = f} {m = m} {fs = fs} {ms = ms} p ps) = let a : default_of ts f ≡ m = p.0 in let b : map (default_of ts) fs ≡ ms = fields-are ps in cc
