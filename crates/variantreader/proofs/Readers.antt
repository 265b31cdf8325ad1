-- What each function that reads variants goes by: from the answers of its callees to its own answer. Assumes nothing.
use mathlib.Core.Path.{◌≡◌, ap, sym, subst, ◌∙◌}
use mathlib.Core.List.{List, [], ◌∷◌, ◌++◌, append_assoc}
use Prim.Native.Nat.{ℕ, ◌+◌, ◌*◌, ◌≤◌, ◌<◌}
use native.Mathlib.Omega.{arith}
use lib.ListN.{length, drop, set, length-append}
use Rattle.guard.specs.File.{name, variant}
use Rattle.guard.specs.Number.{Parsed, Parsed.accepted, Parsed.refused, Parser, and_then, return, times}
use Rattle.guard.specs.Types as guard
use Rattle.guard.proofs.Accepted.{reads-variant}
use Rattle.guard.proofs.Reading as parsers
use Rattle.tables.specs.Layout.{pad}
use Rattle.tables.proofs.Columns.{pad-set}
use Rattle.numbers.specs.Reader.{Found, below}
use Rattle.variantreader.specs.VariantReader.{Holds, Stores, sorts_by, store_three, variant_by, variants_by}
use Rattle.variantreader.proofs.Parsers.{count-is, mapped, mapped_stop, no_value, times-length}
use Rattle.variantreader.proofs.Midway.{Midway, midway_next, midway_stop}
use Rattle.variantreader.proofs.Stored.{holds_more}
use Rattle.variantreader.specs.declared.Variant.{Variant}

-- ---- the types of fields
module _ (bytes : List ℕ) (at arity many : ℕ) where
  -- i of them are read, and the column holds them
  pub record SomeSorts (i next : ℕ) (sorts : List ℕ) : Type 0 where
    pub xs : List ℕ
    pub midway : Midway (name many) arity bytes at i next xs
    pub column : sorts ≡ pad 3 xs

  module _ (i next : ℕ) (sorts : List ℕ) (some : SomeSorts i next sorts) where
    pub sorts-next : i < arity → arity ≤ 3 → (x next' : ℕ) → Found (below many 5 (drop next bytes)) bytes x next' → SomeSorts (i + 1) next' (set sorts i x)
    sorts-next h fit x next' f =
        let xs : List ℕ = some.xs in
        let l : length xs ≡ i = some.midway.count in
        record {
          xs = xs ++ (x ∷ []);
          midway = midway_next (name many) arity bytes at i next xs some.midway h x next' f.accepts f.within;
          column = ap (λ (l : List ℕ). set l i x) some.column ∙ ap (λ (k : ℕ). set (pad 3 xs) k x) (sym l) ∙ pad-set 0 3 xs x (omega arith);
        }

    pub sorts_stop : i < arity → (q : ℕ) → below many 5 (drop next bytes) ≡ refused q → sorts_by arity many (drop at bytes) ≡ refused q
    sorts_stop h q e = ap (and_then (λ fs. return (pad 3 fs))) (midway_stop (name many) arity bytes at i next some.xs some.midway h q e)

-- ---- a variant

few-fields : (many : ℕ) → many ≤ 128 → (bs : List ℕ) (fs : guard.Variant) (rest : List ℕ) → variant many bs ≡ accepted fs rest → length fs ≤ 3
unfolding parsers.Reads
few-fields many small bs fs rest e = let (u, l, fits) = reads-variant many small bs fs rest e in fits.0.0

module _ (bytes : List ℕ) (at many : ℕ) where
  abbrev from_count : Parsed ℕ → Parsed Variant
  from_count r = and_then (λ fs. return (record { arity = length fs; sorts = pad 3 fs })) (and_then (λ f. times f (name many)) r)

  pub variant_stop : (q : ℕ) → below 4 4 (drop at bytes) ≡ refused q → variant_by many (drop at bytes) ≡ refused q
  variant_stop q e = ap from_count (count-is 3 (drop at bytes) ∙ e)

  module _ (n at' : ℕ) (counted : Found (below 4 4 (drop at bytes)) bytes n at') where
    pub variant-done : (sorts : List ℕ) (next : ℕ) → Found (sorts_by n many (drop at' bytes)) bytes sorts next
        → Found (variant_by many (drop at bytes)) bytes (record { arity = n; sorts = sorts }) next
    variant-done sorts next f =
        let m = mapped (pad 3) (times n (name many) (drop at' bytes)) sorts (drop next bytes) f.accepts in
        let l : length m.value ≡ n = times-length (name many) n (drop at' bytes) m.value (drop next bytes) m.accepts in
        let s : pad 3 m.value ≡ sorts = m.is in
        let made : ◌≡◌ {A = Variant} (record { arity = length m.value; sorts = pad 3 m.value }) (record { arity = n; sorts = sorts }) = cc in
        record {
          accepts =
              ap from_count (count-is 3 (drop at bytes) ∙ counted.accepts) ∙ ap (and_then (λ fs. return (record { arity = length fs; sorts = pad 3 fs }))) m.accepts
              ∙ ap (λ (x : Variant). accepted x (drop next bytes)) made;
          within = f.within;
        }

-- ---- variants

-- after a refusal the columns may hold anything
pub stores_nothing : (p : Parser (List guard.Variant)) (bs : List ℕ) (q w : ℕ) (arities sorts arities' sorts' : List ℕ) → p bs ≡ refused q → Stores p bs w arities sorts arities' sorts'
stores_nothing p bs q w arities sorts arities' sorts' e = record { stored = λ ws vs rest l h f. no_value (sym e ∙ f) }

module _ (bytes : List ℕ) (at n many w : ℕ) (arities₀ sorts₀ : List ℕ) where
  -- i of them are read, and the columns hold them behind those that were there
  pub record SomeVariants (i next : ℕ) (arities sorts : List ℕ) : Type 0 where
    pub vs : List guard.Variant
    pub midway : Midway (variant many) n bytes at i next vs
    pub held : (ws : List guard.Variant) → w ≡ length ws → Holds ws arities₀ sorts₀ → Holds (ws ++ vs) arities sorts

  module _ (i next : ℕ) (arities sorts : List ℕ) (some : SomeVariants i next arities sorts) where
    pub variants-next : i < n → w + n ≤ 48 → many ≤ 6 → (r : Variant) (next' : ℕ) → Found (variant_by many (drop next bytes)) bytes r next' → (arities' sorts' : List ℕ)
        → arities' ≡ set arities (w + i) r.arity → sorts' ≡ store_three sorts (3 * (w + i)) r.sorts → SomeVariants (i + 1) next' arities' sorts'
    variants-next h fit small r next' f arities' sorts' ea es =
        let m = mapped (λ fs. record { arity = length fs; sorts = pad 3 fs }) (variant many (drop next bytes)) r (drop next' bytes) f.accepts in
        let fs : guard.Variant = m.value in
        let ra : length fs ≡ r.arity = ap (λ (x : Variant). x.arity) m.is in
        let rs : pad 3 fs ≡ r.sorts = ap (λ (x : Variant). x.sorts) m.is in
        let ea' : set arities (w + i) (length fs) ≡ arities' = ap (set arities (w + i)) ra ∙ sym ea in
        let es' : store_three sorts (3 * (w + i)) (pad 3 fs) ≡ sorts' = ap (store_three sorts (3 * (w + i))) rs ∙ sym es in
        record {
          vs = some.vs ++ (fs ∷ []);
          midway = midway_next (variant many) n bytes at i next some.vs some.midway h fs next' m.accepts f.within;
          held = λ ws l g.
              subst (λ (x : List guard.Variant). Holds x arities' sorts') (append_assoc ws some.vs (fs ∷ []))
              (subst (Holds ((ws ++ some.vs) ++ (fs ∷ [])) arities') es'
              (subst (λ (x : List ℕ). Holds ((ws ++ some.vs) ++ (fs ∷ [])) x (store_three sorts (3 * (w + i)) (pad 3 fs))) ea'
              (holds_more (ws ++ some.vs) arities sorts (some.held ws l g) (w + i) fs (omega (arith, l, length-append ws some.vs, some.midway.count)) (omega arith)
              (few-fields many (omega arith) (drop next bytes) fs (drop next' bytes) m.accepts))));
        }

    pub variants_halt : i < n → (q : ℕ) → variant_by many (drop next bytes) ≡ refused q → times n (variant many) (drop at bytes) ≡ refused q
    variants_halt h q e =
        midway_stop (variant many) n bytes at i next some.vs some.midway h q (mapped_stop (λ fs. record { arity = length fs; sorts = pad 3 fs }) (variant many (drop next bytes)) q e)

    pub variants_stop : i < n → (q : ℕ) → variant_by many (drop next bytes) ≡ refused q → variants_by n many (drop at bytes) ≡ refused q
    variants_stop h q e = ap (and_then (λ vs. return tt)) (variants_halt h q e)
