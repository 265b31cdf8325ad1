-- Type parts of the same bytes are of the same types. Assumes nothing.
use mathlib.Core.Path.{◌≡◌, refl, ap, sym, ◌∙◌}
use mathlib.Core.Bool.{true, false}
use mathlib.Core.List.{List, [], ◌∷◌, ◌++◌, append-nil, map}
use Prim.Native.Nat.{ℕ, suc, ◌≤◌}
use native.Mathlib.Omega.{arith}
use lib.ListN.{length, get_or}
use Rattle.laws.specs.All.{All, All.more, All.none}
use Rattle.laws.specs.Lists.{concat_map}
use Rattle.laws.proofs.Bools.{by_test}
use Rattle.laws.proofs.Lists.{all_mem, all_of, all_weaken, concat_map_cong, concat_map_inv}
use Rattle.guard.specs.Limits.{variant_limit}
use Rattle.guard.specs.Types.{Types, Variant, variants_of}
use Rattle.tables.specs.declared.TypeTable.{TypeTable}
use Rattle.tables.specs.Layout.{flat, type_table, types_of}
use Rattle.tables.proofs.TypesBack.{types-back}
use Rattle.heldparts.specs.Held.{HoldsTypes, VariantFits}
use Rattle.encoding.specs.Encoding.{encoded}
use Rattle.serialize.specs.Tokens.{Token, Token.plain, token_bytes, type_tokens, variant_tokens}
use Rattle.serialize.proofs.Copying.{concat_map-append}
use Rattle.merged.specs.Merge.{same_bytes, type_part}
use Rattle.sametypes.proofs.Codes.{AllFit, list_code, listed, number-code, same-bytes-is, same-yes}

-- ---- the type part as a code

nested : {A B C : Type 0} (g : B → List C) (f : A → List B) (xs : List A) → concat_map g (concat_map f xs) ≡ concat_map (λ x. concat_map g (f x)) xs
nested g f [] = refl
nested {C = C} g f (x ∷ xs) = concat_map-append g (f x) (concat_map f xs) ∙ ap (λ (l : List C). concat_map g (f x) ++ l) (nested g f xs)

plain-bytes : (ns : List ℕ) → concat_map token_bytes (map plain ns) ≡ concat_map encoded ns
plain-bytes [] = refl
plain-bytes (n ∷ ns) = ap (λ (l : List ℕ). encoded n ++ l) (plain-bytes ns)

-- how many, and each
listed-bytes : {A : Type 0} (n : ℕ) (tokens : A → List Token) (f : A → List ℕ) → ((x : A) → concat_map token_bytes (tokens x) ≡ f x) → (xs : List A) → concat_map token_bytes (plain n ∷ concat_map tokens xs) ≡ encoded n ++ concat_map f xs
listed-bytes n tokens f h xs = ap (λ (l : List ℕ). encoded n ++ l) (nested token_bytes tokens xs ∙ concat_map_cong (λ x. concat_map token_bytes (tokens x)) f xs (λ x m. h x))

part-is : (ts : Types) → type_part ts ≡ listed (listed (listed encoded)) ts
unfolding type_part
part-is ts =
    listed-bytes (length ts) type_tokens (listed (listed encoded)) (λ vs. listed-bytes (length vs) variant_tokens (listed encoded) (λ fs. ap (λ (l : List ℕ). encoded (length fs) ++ l) (plain-bytes fs)) vs) ts

-- all numbers of the type part fit
abbrev pub TypesFit : Types → Type 0
TypesFit ts = AllFit (AllFit (AllFit (λ n. n ≤ 4294967295))) ts

pub same-part : (ts us : Types) → TypesFit ts → TypesFit us → same_bytes (type_part ts) (type_part us) ≡ true → ts ≡ us
same-part ts us h k e =
    (list_code (AllFit (AllFit (λ n. n ≤ 4294967295))) (listed (listed encoded)) (list_code (AllFit (λ n. n ≤ 4294967295)) (listed encoded) (list_code (λ n. n ≤ 4294967295) encoded number-code)) ts us [] [] h k
    (append-nil (listed (listed (listed encoded)) ts) ∙ sym (part-is ts) ∙ same-bytes-is (type_part ts) (type_part us) e ∙ part-is us ∙ sym (append-nil (listed (listed (listed encoded)) us)))).0

-- ---- types that a table holds

types-all : {A : Type 0} (P : List A → Type 0) (xss : List (List A)) → ((t : ℕ) → P (get_or xss t [])) → All P xss
types-all P [] h = none
types-all P (xs ∷ xss) h = more (h 0) (types-all P xss (λ t. h (suc t)))

pub types-fit : (ts : Types) → length ts ≤ 6 → ((t : ℕ) → length (variants_of ts t) ≤ variant_limit) → All (VariantFits ts) (flat ts) → TypesFit ts
types-fit ts many variants fields = (
  omega arith,
  all_of ts (λ vs m.
      let few : length vs ≤ variant_limit = all_mem (types-all (λ l. length l ≤ variant_limit) ts variants) vs m in
      (omega arith, all_weaken variant_fits_lem (concat_map_inv (λ l. l) ts fields vs m))),
)
  where
    variant_fits_lem : (fs : Variant) → VariantFits ts fs → AllFit (λ n. n ≤ 4294967295) fs
    variant_fits_lem fs (few, small) = (omega arith, all_weaken (λ f l. omega arith) small)

module _ {a b : TypeTable} {ts us : Types} (h : HoldsTypes a ts) (k : HoldsTypes b us) where
  pub same-held : same_bytes (type_part ts) (type_part us) ≡ true → ts ≡ us
  same-held e = same-part ts us (types-fit ts h.many h.variants h.fields) (types-fit us k.many k.variants k.fields) e

  pub tables-same : a ≡ b → true ≡ same_bytes (type_part ts) (type_part us)
  tables-same e =
      same-yes (ap type_part (sym (types-back ts (all_weaken (λ fs f. f.0) h.fields)) ∙ ap types_of (sym h.are ∙ e ∙ k.are) ∙ types-back us (all_weaken (λ fs f. f.0) k.fields)))

  pub tables_differ : ¬ (a ≡ b) → false ≡ same_bytes (type_part ts) (type_part us)
  tables_differ n = by_test (same_bytes (type_part ts) (type_part us)) (λ e. absurd (n (h.are ∙ ap type_table (same-held e) ∙ sym k.are))) (λ e. sym e)
