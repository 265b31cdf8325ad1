-- The values of the terms obey the rules of the closure, "equal" read as equal values and "lacks" as being another
-- variant. A built row, a default, and a term read whose one variant is the read one each have a value made by the variant
-- from the values of their parts; every rule follows from this and from each value being a message of its type.
-- Assumes nothing.
use mathlib.Core.Path.{◌≡◌, refl, ap, sym, ◌∙◌, subst, ap₂}
use mathlib.Core.Bool.{false}
use mathlib.Core.List.{List, [], ◌∷◌, Memᴰ, map}
use Prim.Native.Nat.{ℕ, ◌≤◌, ◌<◌}
use native.Mathlib.Omega.{arith}
use lib.Dec.{eqb}
use lib.ListN.{length, get_or}
use borrow.Author.Tests.{eqb-true, eqb-false}
use mathlib.Core.Option.{none, some}
use Rattle.laws.specs.Lists.{from}
use Rattle.laws.proofs.Bools.{by_test}
use Rattle.laws.proofs.Lists.{map-length}
use Rattle.guard.specs.Guard.{Guard, Row.built, Row.constant, Row.field, row_at}
use Rattle.guard.specs.Limits.{Limits, Supported, variant_limit}
use Rattle.guard.specs.Meaning.{Assigns, Belongs, IsVariant, read_field}
use Rattle.guard.specs.Message.{Message, Message.made, Message.number, Parts, Parts.nil, to_parts}
use Rattle.guard.specs.Rules.{AllSame, Alone, BuiltAt, BuiltAt.read, BuiltAt.row, ObeysRules, Relation}
use Rattle.guard.specs.Terms.{Build, Const, Read, Term, absent_term, as_build, default_term, fieldless, read_at, table_of}
use Rattle.guard.specs.Types.{Types, default_of, defaults, field_type, fields_of, is_number, variants_of}
use Rattle.guard.specs.WellFormed.{WellFormed}
use Rattle.guard.proofs.DefaultLaws.{default_form, default-is}
use Rattle.guard.proofs.MessageLaws.{belong_length, has_variant_lem, made_by, made-fieldless, one-variant, parts_eq, read-other, reads_all, variant-below, variant-type}
use Rattle.guard.proofs.TableLaws.{build_inv, const_inv, default_build_of, fieldless-is, read_inv, row-fit, table_in_range, types_of}
use Rattle.soundness.proofs.TermValues.{read-fields, read-term-belongs, row_equation, term-belongs, term_value, value-default}

abbrev pub SameValue : (ℕ → Message) → Relation
SameValue val i j = val i ≡ val j

abbrev pub NotVariant : (ℕ → Message) → Relation
NotVariant val i v = ¬ IsVariant (val i) v

-- parts of equal values, and equal values of the parts
same-values : (val : ℕ → Message) (ps qs : List ℕ) → length ps ≡ length qs → AllSame (SameValue val) ps qs → map val ps ≡ map val qs
same-values val [] [] l h = refl
same-values val [] (q ∷ qs) l h = absurd (omega arith)
same-values val (p ∷ ps) [] l h = absurd (omega arith)
same-values val (p ∷ ps) (q ∷ qs) l h =
    let a : val p ≡ val q = h.0 in
    let b : map val ps ≡ map val qs = same-values val ps qs (omega arith) h.1 in
    cc

all_same : (val : ℕ → Message) (ps qs : List ℕ) → map val ps ≡ map val qs → AllSame (SameValue val) ps qs
all_same val [] qs e = tt
all_same val (p ∷ ps) [] e = tt
all_same val (p ∷ ps) (q ∷ qs) e = ((cc), all_same val ps qs (cc))

module _ (limits : Limits) (sup : Supported limits) (g : Guard) (ok : WellFormed limits g) (ρ : ℕ → Message) (assigns : Assigns g ρ) where
  abbrev ts : Types
  ts = g.types

  abbrev val : ℕ → Message
  val = term_value g ρ

  belongs : (x : Term) → Memᴰ x (table_of g).terms → Belongs ts (val x.term) x.type
  belongs = term-belongs limits sup g ok ρ assigns

  -- a term of variant type is one of its variants
  pub term-variant : (x : Term) → Memᴰ x (table_of g).terms → is_number ts x.type ≡ false → (v : ℕ) × (v < variant_limit) × IsVariant (val x.term) v
  term-variant x m n = let (v, h, i) = has_variant_lem ts (val x.term) x.type (belongs x m) n in (v, omega (arith, h, ok.variant_counts x.type), i)

  -- a message of a type with variants that is no other variant is the one left
  alone-variant : (m : Message) (t v : ℕ) → Belongs ts m t → is_number ts t ≡ false → ((u : ℕ) → u < variant_limit → ¬ (u ≡ v) → ¬ IsVariant m u) → IsVariant m v
  alone-variant m t v b n f =
      let (w, h, i) = has_variant_lem ts m t b n in
      by_test (eqb w v) (λ e. subst (IsVariant m) (eqb-true w v e) i) (λ e. absurd (f w (omega (arith, h, ok.variant_counts t)) (eqb-false w v e) i))

  -- ---- what is built, read or constant

  abbrev MadeOfParts : Build → Type 0
  MadeOfParts b = val b.term ≡ made b.type b.variant (to_parts (map val b.parts))

  default-made : (t u v : ℕ) (ms : Parts) → t < length ts → get_or (defaults ts) t none ≡ some (made u v ms) → MadeOfParts (default_build_of ts t v)
  default-made t u v ms h e =
      value-default g ρ t ∙ default-is ts t (made u v ms) e ∙ default_form ts t (made u v ms) e
      ∙ ap (λ (ns : List Message). made t v (to_parts ns)) (defaults-valued (fields_of ts t v))
    where
      defaults-valued : (fs : List ℕ) → map (default_of ts) fs ≡ map val (map default_term fs)
      defaults-valued [] = refl
      defaults-valued (f ∷ fs) = let a : val (default_term f) ≡ default_of ts f = value-default g ρ f in let b : map (default_of ts) fs ≡ map val (map default_term fs) = defaults-valued fs in cc

  read_made : (r : Read) → Memᴰ r (table_of g).reads → Alone (NotVariant val) r.term r.variant → MadeOfParts (as_build r)
  read_made = read_inv g (λ r. Alone (NotVariant val) r.term r.variant → MadeOfParts (as_build r)) go
    where
      go : (i t a v p : ℕ) → i < length g.rows → row_at g.rows i ≡ field t a v p → Alone (NotVariant val) a v → MadeOfParts (as_build (read_at ts i t a v p))
      go i t a v p h e al =
          let b : Belongs ts (val a) t = read-term-belongs limits sup g ok ρ assigns i t a v p h e in
          let (ms, q, bs) = made_by ts (val a) t v b (alone-variant (val a) t v b (variant-type ts t v (row-fit limits sup g ok i (field t a v p) h e).2) al) in
          q
          ∙ ap (made t v)
          (sym (reads_all ts t v t ms (fields_of ts t v) bs) ∙ ap (λ (m : Message). to_parts (map (λ q. read_field ts t v q m) (from (length (fields_of ts t v)) 0))) (sym q)
          ∙ ap to_parts (sym (read-fields limits sup g ok ρ i t a v p h e)))

  pub build-value : (b : Build) → BuiltAt (table_of g) (NotVariant val) b → val b.term ≡ made b.type b.variant (to_parts (map val b.parts))
  build-value b (row m) = build_inv g MadeOfParts (λ i t v ps h e. row_equation limits sup g ok ρ i (built t v ps) h e) default-made b m
  build-value b (read r m al e) = subst MadeOfParts (sym e) (read_made r m al)

  pub const-value : (c : Const) → Memᴰ c (table_of g).consts → val c.term ≡ number c.type c.value
  const-value =
      const_inv g (λ c. val c.term ≡ number c.type c.value) (λ i t z h e. row_equation limits sup g ok ρ i (constant t z) h e)
      (λ t u z h e. value-default g ρ t ∙ default-is ts t (number u z) e ∙ default_form ts t (number u z) e)

  read-value : (r : Read) → Memᴰ r (table_of g).reads → val r.row ≡ read_field ts r.type r.variant r.position (val r.term)
  read-value =
      read_inv g (λ r. val r.row ≡ read_field ts r.type r.variant r.position (val r.term)) (λ i t a v p h e. row_equation limits sup g ok ρ i (field t a v p) h e)

  -- as many parts as the variant has fields
  part_count : (b : Build) → BuiltAt (table_of g) (NotVariant val) b → length b.parts ≡ length (fields_of ts b.type b.variant)
  part_count b at =
      sym (map-length val b.parts)
      ∙ belong_length ts (map val b.parts) (fields_of ts b.type b.variant) (subst (λ (m : Message). Belongs ts m b.type) (build-value b at) (belongs (record { term = b.term; type = b.type }) (in_table at))).2
    where
      in_table : BuiltAt (table_of g) (NotVariant val) b → Memᴰ (record { term = b.term; type = b.type }) (table_of g).terms
      in_table (row m) = (table_in_range limits sup g ok).build_terms b m
      in_table (read r m al e) = subst (λ (b : Build). Memᴰ (record { term = b.term; type = b.type }) (table_of g).terms) (sym e) ((table_in_range limits sup g ok).read_terms r m)

  -- ---- the rules

  absent-value : (r : Read) → Memᴰ r (table_of g).reads → NotVariant val r.term r.variant → SameValue val r.row r.absent
  absent-value = read_inv g (λ r. NotVariant val r.term r.variant → SameValue val r.row r.absent) go
    where
      go : (i t a v p : ℕ) → i < length g.rows → row_at g.rows i ≡ field t a v p → ¬ IsVariant (val a) v → val i ≡ val (absent_term ts t v p)
      go i t a v p h e n =
          let (w, hw, iw) = has_variant_lem ts (val a) t (read-term-belongs limits sup g ok ρ assigns i t a v p h e) (variant-type ts t v (row-fit limits sup g ok i (field t a v p) h e).2) in
          row_equation limits sup g ok ρ i (field t a v p) h e ∙ read-other ts t v p (val a) w iw (λ q. n (subst (IsVariant (val a)) q iw)) ∙ sym (value-default g ρ (field_type ts t v p))

  fieldless-value : (x : Term) (v : ℕ) → Memᴰ x (table_of g).terms → Memᴰ v (fieldless 0 (variants_of (table_of g).types x.type)) → Alone (NotVariant val) x.term v
      → val x.term ≡ made x.type v nil
  unfolding table_of
  fieldless-value x v m f al =
      let (k, e, h, q) = fieldless-is 0 v (variants_of ts x.type) f in
      let vk : k ≡ v = omega arith in
      made-fieldless ts (val x.term) x.type v (belongs x m)
      (alone-variant (val x.term) x.type v (belongs x m) (variant-type ts x.type k h) al) (ap (fields_of ts x.type) (sym vk) ∙ q)

  pub values_obey : ObeysRules (table_of g) (SameValue (term_value g ρ)) (NotVariant (term_value g ρ))
  values_obey =
      record {
        itself = λ i. refl;
        back = λ e. sym e;
        through = λ e f. e ∙ f;
        constants = λ a b ma mb et ev. const-value a ma ∙ ap₂ number et ev ∙ sym (const-value b mb);
        congruent = λ a b ba bb et ev ps. build-value a ba ∙ same-made a b et ev (same-values val a.parts b.parts (same_count a b ba bb et ev) ps) ∙ sym (build-value b bb);
        parts = λ a b ba bb et ev e. all_same val a.parts b.parts (parts_eq (map val a.parts) (map val b.parts) (made-parts a b (sym (build-value a ba) ∙ e ∙ build-value b bb)));
        reads = λ a b ma mb et ev ep e. read-value a ma ∙ same_read a b et ev ep e ∙ sym (read-value b mb);
        beyond = beyond';
        built = λ b m u hu n i. n (one-variant (val b.term) u b.variant i (subst (λ (x : Message). IsVariant x b.variant) (sym (build-value b (row m))) refl));
        shared = λ {i} {j} {v} e n k. n (subst (λ (x : Message). IsVariant x v) (sym e) k);
        single = λ a b v ma mb et m fa fb. fieldless-value a v ma m fa ∙ ap (λ (t : ℕ). made t v nil) et
            ∙ sym (fieldless-value b v mb (subst (λ (t : ℕ). Memᴰ v (fieldless 0 (variants_of (table_of g).types t))) et m) fb);
        absent = absent-value;
      }
    where
      same-made : (a b : Build) → a.type ≡ b.type → a.variant ≡ b.variant → map val a.parts ≡ map val b.parts
          → made a.type a.variant (to_parts (map val a.parts)) ≡ made b.type b.variant (to_parts (map val b.parts))
      same-made a b et ev ep = cc

      made-parts : (a b : Build) → made a.type a.variant (to_parts (map val a.parts)) ≡ made b.type b.variant (to_parts (map val b.parts))
          → to_parts (map val a.parts) ≡ to_parts (map val b.parts)
      made-parts a b e = cc

      same_count : (a b : Build) → BuiltAt (table_of g) (NotVariant val) a → BuiltAt (table_of g) (NotVariant val) b → a.type ≡ b.type → a.variant ≡ b.variant → length a.parts ≡ length b.parts
      same_count a b ba bb et ev = part_count a ba ∙ ap₂ (λ (t v : ℕ). length (fields_of ts t v)) et ev ∙ sym (part_count b bb)

      same_read : (a b : Read) → a.type ≡ b.type → a.variant ≡ b.variant → a.position ≡ b.position → val a.term ≡ val b.term
          → read_field ts a.type a.variant a.position (val a.term) ≡ read_field ts b.type b.variant b.position (val b.term)
      same_read a b et ev ep e = cc

      beyond' : (x : Term) (v : ℕ) → Memᴰ x (table_of g).terms → length (variants_of (table_of g).types x.type) ≤ v → ¬ IsVariant (val x.term) v
      beyond' x v m h i = omega (arith, variant-below ts (val x.term) x.type v (belongs x m) i, ap (λ (us : Types). length (variants_of us x.type)) (types_of g))
