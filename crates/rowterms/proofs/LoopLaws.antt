-- Bytes put by a loop, some for each number below n, one after the other. Assumes nothing.
use mathlib.Core.Path.{◌≡◌, ap, sym, ◌∙◌}
use mathlib.Core.List.{List, [], ◌++◌, append_assoc, append-nil}
use Prim.Native.Nat.{ℕ, zero, suc, ◌+◌, ◌-◌, ◌<◌}
use native.Mathlib.Omega.{arith}
use native.Mathlib.Numerals.{add-one}
use Rattle.std.specs.Prelude.{Some, None}
use Rattle.bytebuffer.specs.declared.Writer.{Writer}
use Rattle.bytebuffer.specs.Appends.{Appends}
use Rattle.bytebuffer.proofs.PutLaws.{and_then, nothing, same-bytes, still_full}
use Rattle.rowterms.specs.Rows.{up_to}

-- ---- the bytes

module _ (f : ℕ → List ℕ) where
  -- what follows the bytes of the first i numbers
  between : (i k : ℕ) → (more : List ℕ) × (up_to f i ++ more ≡ up_to f (k + i))
  between i zero = ([], append-nil (up_to f i) ∙ ap (up_to f) (let e : i ≡ 0 + i = omega arith in e))
  between i (suc k) =
      let (more, e) = between i k in
      (more ++ f (k + i), sym (append_assoc (up_to f i) more (f (k + i))) ∙ ap (λ (l : List ℕ). l ++ f (k + i)) e ∙ ap (up_to f) (let q : suc (k + i) ≡ suc k + i = omega arith in q))

  pub from_front : (n : ℕ) → up_to f (suc n) ≡ f 0 ++ up_to (λ i. f (suc i)) n
  from_front zero = sym (append-nil (f 0))
  from_front (suc n) = ap (λ (l : List ℕ). l ++ f (suc n)) (from_front n) ∙ append_assoc (f 0) (up_to (λ i. f (suc i)) n) (f (suc n))

-- ---- the loop

module _ (f : ℕ → List ℕ) where
  pub loop_begin : (w : Writer) → Appends (up_to f 0) w (Some tt) w
  loop_begin w = nothing w

  module _ {i : ℕ} {w w' : Writer} (p : Appends (up_to f i) w (Some tt) w') where
    pub loop_next : {w'' : Writer} → Appends (f i) w' (Some tt) w'' → Appends (up_to f (i + 1)) w (Some tt) w''
    loop_next q = rw (add-one i) (and_then p q)

    pub loop_full : {w'' : Writer} → Appends (f i) w' None w'' → (n : ℕ) → i < n → Appends (up_to f n) w None w''
    loop_full q n h =
        let (more, same) = between f (suc i) (n - suc i) in
        let all : n - suc i + suc i ≡ n = omega arith in
        same-bytes (same ∙ ap (up_to f) all) (still_full more (and_then p q))

    -- nothing is put at i
    pub loop_skip : f i ≡ [] → Appends (up_to f (i + 1)) w (Some tt) w'
    loop_skip e = rw (add-one i) (same-bytes (sym (append-nil (up_to f i)) ∙ ap (λ (l : List ℕ). up_to f i ++ l) (sym e)) p)

pub ruleset loop_laws = (loop_begin, loop_next, loop_full)
