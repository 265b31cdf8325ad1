-- The second's rows, one after the other: names, rows that are written, and types of variables taken as one. Assumes nothing.
use mathlib.Core.Path.{◌≡◌, refl, ap, sym, ◌∙◌}
use mathlib.Core.Bool.{Bool, true, false, ◌&&◌, false≢true}
use mathlib.Core.List.{List, [], ◌∷◌, ◌++◌}
use Prim.Native.Nat.{ℕ, suc, ◌+◌, ◌≤◌, ◌<◌}
use native.Mathlib.Omega.{arith}
use native.Mathlib.Numerals.{add-one}
use lib.Dec.{eqb}
use lib.ListN.{drop, length, set, take, drop_of_length-le}
use lib.Seq.{drop-cons}
use Rattle.laws.specs.All.{All, All.more, All.none}
use Rattle.guard.specs.Guard.{Row, Row.built, Row.constant, Row.field, Row.variable, no_row, row_at, type_at, type_of}
use Rattle.guard.specs.Types.{Types}
use Rattle.tables.specs.Layout.{pad, row_kind}
use Rattle.merged.specs.Merge.{kept_rows, names_from, types_agree, variables, written_of}
use Rattle.renaming.proofs.Prefixes.{drop-next, fill_next, fill_zero, filled}

-- 1 for a row that is not written
abbrev pub skips : List ℕ → List Row → List ℕ
skips vs [] = []
skips [] (r ∷ rs) = 0 ∷ skips [] rs
skips (x ∷ vs) (variable t ∷ rs) = 1 ∷ skips vs rs
skips (x ∷ vs) (constant t z ∷ rs) = 0 ∷ skips (x ∷ vs) rs
skips (x ∷ vs) (built t v ps ∷ rs) = 0 ∷ skips (x ∷ vs) rs
skips (x ∷ vs) (field t a v p ∷ rs) = 0 ∷ skips (x ∷ vs) rs

-- whether a row is taken as a variable of the first
abbrev pub taken : List ℕ → Row → Bool
taken [] r = false
taken (x ∷ vs) r = eqb (row_kind r) 0

all-written : (rs : List Row) → written_of [] rs ≡ rs
all-written [] = refl
all-written (r ∷ rs) = refl

none_differ : (ts : Types) (firsts rs : List Row) → types_agree ts firsts [] rs ≡ true
none_differ ts firsts [] = refl
none_differ ts firsts (r ∷ rs) = refl

pub kept_back : (vs : List ℕ) (rs : List Row) (zs : List ℕ) → kept_rows (skips vs rs ++ zs) rs ≡ written_of vs rs
kept_back vs [] [] = refl
kept_back vs [] (z ∷ zs) = refl
kept_back [] (r ∷ rs) zs = ap (λ (l : List Row). r ∷ l) (kept_back [] rs zs ∙ all-written rs)
kept_back (x ∷ vs) (variable t ∷ rs) zs = kept_back vs rs zs
kept_back (x ∷ vs) (constant t z ∷ rs) zs = ap (λ (l : List Row). constant t z ∷ l) (kept_back (x ∷ vs) rs zs)
kept_back (x ∷ vs) (built t v ps ∷ rs) zs = ap (λ (l : List Row). built t v ps ∷ l) (kept_back (x ∷ vs) rs zs)
kept_back (x ∷ vs) (field t a v p ∷ rs) zs = ap (λ (l : List Row). field t a v p ∷ l) (kept_back (x ∷ vs) rs zs)

pub few-written : (vs : List ℕ) (rs : List Row) → length (written_of vs rs) ≤ length rs
few-written vs [] = omega arith
few-written [] (r ∷ rs) = omega arith
few-written (x ∷ vs) (variable t ∷ rs) = omega (arith, few-written vs rs)
few-written (x ∷ vs) (constant t z ∷ rs) = omega (arith, few-written (x ∷ vs) rs)
few-written (x ∷ vs) (built t v ps ∷ rs) = omega (arith, few-written (x ∷ vs) rs)
few-written (x ∷ vs) (field t a v p ∷ rs) = omega (arith, few-written (x ∷ vs) rs)

pub small-names : (k : ℕ) (vs : List ℕ) (next : ℕ) (rs : List Row) → All (λ x. x < k) vs → next + length rs ≤ k → All (λ n. n < k) (names_from vs next rs)
small-names k vs next [] h l = none
small-names k [] next (r ∷ rs) h l = more {x = next} (omega arith) (small-names k [] (suc next) rs none (omega arith))
small-names k (x ∷ vs) next (variable t ∷ rs) (more h hs) l = more h (small-names k vs next rs hs (omega arith))
small-names k (x ∷ vs) next (constant t z ∷ rs) h l = more {x = next} (omega arith) (small-names k (x ∷ vs) (suc next) rs h (omega arith))
small-names k (x ∷ vs) next (built t v ps ∷ rs) h l = more {x = next} (omega arith) (small-names k (x ∷ vs) (suc next) rs h (omega arith))
small-names k (x ∷ vs) next (field t a v p ∷ rs) h l = more {x = next} (omega arith) (small-names k (x ∷ vs) (suc next) rs h (omega arith))

pub names-length : (vs : List ℕ) (next : ℕ) (rs : List Row) → length (names_from vs next rs) ≡ length rs
names-length vs next [] = refl
names-length [] next (r ∷ rs) = ap suc (names-length [] (suc next) rs)
names-length (x ∷ vs) next (variable t ∷ rs) = ap suc (names-length vs next rs)
names-length (x ∷ vs) next (constant t z ∷ rs) = ap suc (names-length (x ∷ vs) (suc next) rs)
names-length (x ∷ vs) next (built t v ps ∷ rs) = ap suc (names-length (x ∷ vs) (suc next) rs)
names-length (x ∷ vs) next (field t a v p ∷ rs) = ap suc (names-length (x ∷ vs) (suc next) rs)

-- ---- one row

-- it is written
record Writes (ts : Types) (firsts : List Row) (vs : List ℕ) (next : ℕ) (r : Row) (rs : List Row) : Type 0 where
  names : names_from vs next (r ∷ rs) ≡ next ∷ names_from vs (suc next) rs
  skipped : skips vs (r ∷ rs) ≡ 0 ∷ skips vs rs
  rows : length (written_of vs (r ∷ rs)) ≡ suc (length (written_of vs rs))
  agree : types_agree ts firsts vs (r ∷ rs) ≡ types_agree ts firsts vs rs

writes : (ts : Types) (firsts : List Row) (vs : List ℕ) (next : ℕ) (r : Row) (rs : List Row) → taken vs r ≡ false → Writes ts firsts vs next r rs
writes ts firsts [] next r rs e = record { names = refl; skipped = refl; rows = ap (λ (l : List Row). suc (length l)) (sym (all-written rs)); agree = sym (none_differ ts firsts rs) }
writes ts firsts (x ∷ vs) next (variable t) rs e = absurd (false≢true (sym e))
writes ts firsts (x ∷ vs) next (constant t z) rs e = record { names = refl; skipped = refl; rows = refl; agree = refl }
writes ts firsts (x ∷ vs) next (built t v ps) rs e = record { names = refl; skipped = refl; rows = refl; agree = refl }
writes ts firsts (x ∷ vs) next (field t a v p) rs e = record { names = refl; skipped = refl; rows = refl; agree = refl }

-- it is taken
record Takes (ts : Types) (firsts : List Row) (x : ℕ) (vs : List ℕ) (next : ℕ) (r : Row) (rs : List Row) : Type 0 where
  names : names_from (x ∷ vs) next (r ∷ rs) ≡ x ∷ names_from vs next rs
  skipped : skips (x ∷ vs) (r ∷ rs) ≡ 1 ∷ skips vs rs
  rows : length (written_of (x ∷ vs) (r ∷ rs)) ≡ length (written_of vs rs)
  agree : types_agree ts firsts (x ∷ vs) (r ∷ rs) ≡ (eqb (type_at ts firsts x) (type_of ts r) && types_agree ts firsts vs rs)

takes : (ts : Types) (firsts : List Row) (x : ℕ) (vs : List ℕ) (next : ℕ) (r : Row) (rs : List Row) → row_kind r ≡ 0 → Takes ts firsts x vs next r rs
takes ts firsts x vs next (variable t) rs e = record { names = refl; skipped = refl; rows = refl; agree = refl }
takes ts firsts x vs next (constant t z) rs e = absurd (omega (arith, e))
takes ts firsts x vs next (built t v ps) rs e = absurd (omega (arith, e))
takes ts firsts x vs next (field t a v p) rs e = absurd (omega (arith, e))

-- ---- all rows

module _ (ts : Types) (rs ss : List Row) where
  abbrev all_names : List ℕ
  all_names = names_from (variables rs) (length rs) ss

  abbrev all_skips : List ℕ
  all_skips = skips (variables rs) ss

  -- the first i rows are gone over, and the variables `vs` of the first are left
  pub record Midway (vs : List ℕ) (next i : ℕ) (names skipped : List ℕ) (agree : Bool) : Type 0 where
    pub names-are : names ≡ pad 24 (take i (names_from (variables rs) (length rs) ss))
    pub names-left : drop i (names_from (variables rs) (length rs) ss) ≡ names_from vs next (drop i ss)
    pub skips_are : skipped ≡ pad 24 (take i (skips (variables rs) ss))
    pub skips_left : drop i (skips (variables rs) ss) ≡ skips vs (drop i ss)
    pub rows_are : next + length (written_of vs (drop i ss)) ≡ length rs + length (written_of (variables rs) ss)
    pub agreed : (agree && types_agree ts rs vs (drop i ss)) ≡ types_agree ts rs (variables rs) ss

  pub begin : Midway (variables rs) (length rs) 0 (pad 24 []) (pad 24 []) true
  begin = record { names-are = refl; names-left = refl; skips_are = refl; skips_left = refl; rows_are = refl; agreed = refl }

  module _ {vs : List ℕ} {next i : ℕ} {names skipped : List ℕ} {agree : Bool} (many : length ss ≤ 24) (m : Midway vs next i names skipped agree) where
    pub few-rows : next ≤ length rs + length ss
    few-rows = omega (arith, m.rows_are, few-written (variables rs) ss)

    module _ (h : i < length ss) where
      here : drop i ss ≡ row_at ss i ∷ drop (i + 1) ss
      here = rw add-one (drop-cons ss i no_row h)

      pub row_written : taken vs (row_at ss i) ≡ false → Midway vs (next + 1) (i + 1) (set names i next) skipped agree
      row_written e =
          let w = writes ts rs vs next (row_at ss i) (drop (i + 1) ss) e in
          let n : drop i all_names ≡ next ∷ names_from vs (suc next) (drop (i + 1) ss) = m.names-left ∙ ap (names_from vs next) here ∙ w.names in
          let s : drop i all_skips ≡ 0 ∷ skips vs (drop (i + 1) ss) = m.skips_left ∙ ap (skips vs) here ∙ w.skipped in
          record {
            names-are = ap (λ (l : List ℕ). set l i next) m.names-are ∙ fill_next 24 i next all_names (names_from vs (suc next) (drop (i + 1) ss)) n (omega arith);
            names-left = drop-next 24 i next all_names (names_from vs (suc next) (drop (i + 1) ss)) n ∙ ap (λ (k : ℕ). names_from vs k (drop (i + 1) ss)) (sym (add-one next));
            skips_are = m.skips_are ∙ fill_zero 24 i all_skips (skips vs (drop (i + 1) ss)) s (omega arith);
            skips_left = drop-next 24 i 0 all_skips (skips vs (drop (i + 1) ss)) s;
            rows_are = omega (arith, m.rows_are, ap (λ (l : List Row). length (written_of vs l)) here, w.rows);
            agreed = ap (λ (b : Bool). agree && b) (sym w.agree ∙ ap (types_agree ts rs vs) (sym here)) ∙ m.agreed;
          }

    pub finished : length ss ≤ i → (names ≡ pad 24 all_names) × (skipped ≡ pad 24 all_skips) × (next ≡ length rs + length (written_of (variables rs) ss)) × (agree ≡ types_agree ts rs (variables rs) ss)
    finished h =
        let none : drop i ss ≡ [] = drop_of_length-le ss h in (
          m.names-are ∙ filled 24 i all_names (m.names-left ∙ ap (names_from vs next) none),
          m.skips_are ∙ filled 24 i all_skips (m.skips_left ∙ ap (skips vs) none),
          omega (arith, m.rows_are, ap (λ (l : List Row). length (written_of vs l)) none),
          and-true agree ∙ ap (λ (l : List Row). agree && types_agree ts rs vs l) (sym none) ∙ m.agreed,
        )
      where
        and-true : (b : Bool) → b ≡ (b && true)
        and-true true = refl
        and-true false = refl

  module _ {x : ℕ} {vs : List ℕ} {next i : ℕ} {names skipped : List ℕ} {agree : Bool} (many : length ss ≤ 24) (m : Midway (x ∷ vs) next i names skipped agree) (h : i < length ss) where
    pub row-taken : row_kind (row_at ss i) ≡ 0 → Midway vs next (i + 1) (set names i x) (set skipped i 1) (agree && eqb (type_at ts rs x) (type_at ts ss i))
    row-taken e =
        let w = takes ts rs x vs next (row_at ss i) (drop (i + 1) ss) e in
        let there : drop i ss ≡ row_at ss i ∷ drop (i + 1) ss = here many m h in
        let n : drop i all_names ≡ x ∷ names_from vs next (drop (i + 1) ss) = m.names-left ∙ ap (names_from (x ∷ vs) next) there ∙ w.names in
        let s : drop i all_skips ≡ 1 ∷ skips vs (drop (i + 1) ss) = m.skips_left ∙ ap (skips (x ∷ vs)) there ∙ w.skipped in
        record {
          names-are = ap (λ (l : List ℕ). set l i x) m.names-are ∙ fill_next 24 i x all_names (names_from vs next (drop (i + 1) ss)) n (omega arith);
          names-left = drop-next 24 i x all_names (names_from vs next (drop (i + 1) ss)) n;
          skips_are = ap (λ (l : List ℕ). set l i 1) m.skips_are ∙ fill_next 24 i 1 all_skips (skips vs (drop (i + 1) ss)) s (omega arith);
          skips_left = drop-next 24 i 1 all_skips (skips vs (drop (i + 1) ss)) s;
          rows_are = omega (arith, m.rows_are, ap (λ (l : List Row). length (written_of (x ∷ vs) l)) there, w.rows);
          agreed = and_and agree (eqb (type_at ts rs x) (type_at ts ss i)) (types_agree ts rs vs (drop (i + 1) ss)) ∙ ap (λ (b : Bool). agree && b) (sym w.agree ∙ ap (types_agree ts rs (x ∷ vs)) (sym there)) ∙ m.agreed;
        }
      where
        and_and : (a b c : Bool) → ((a && b) && c) ≡ (a && (b && c))
        and_and true b c = refl
        and_and false b c = refl
