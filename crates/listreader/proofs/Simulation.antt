-- A small logic of two parsers of one grammar: the first reads a list of numbers, the second its plain bytes. Assumes nothing.
use mathlib.Core.Path.{◌≡◌, refl, ap, sym, subst, ◌∙◌}
use mathlib.Core.Bool.{Bool, true, false}
use mathlib.Core.List.{List, [], ◌∷◌, ◌++◌}
use Prim.Native.Nat.{ℕ, zero, suc, ◌+◌, ◌*◌, ◌≤◌, ◌<◌, min}
use native.Mathlib.Omega.{arith}
use native.Mathlib.Nat.{suc-mul}
use lib.ListN.{take}
use borrow.Author.Tests.{le-leb}
use Rattle.laws.specs.All.{All, All.more}
use Rattle.guard.specs.Grammar.{ended}
use Rattle.guard.proofs.Reading.{Reads}
use Rattle.guard.specs.Number.{Parsed, Parsed.accepted, Parsed.refused, Parser, ◌>>=◌, ◌>>◌, and_then, ask, return, times, unfold_signed, unsigned, unsigned_of, value_width}
use Rattle.encoding.specs.Encoding.{encoded_value}
use Rattle.encoding.proofs.ReadBack.{one_byte, read_back, same-encoded, value-read-back}
use Rattle.serialize.specs.NumberList.{number_list, unsigned_by}
use Rattle.listreader.specs.Plain.{largest, plain_byte, plain_of}
use Rattle.listreader.specs.Written.{Narrow}

-- How the answers of the two parsers agree. Both accept values in the relation R, and leave a list and its plain bytes, with room
-- for at least m numbers. Or both refuse with the same question, and never with 3: document 02, #104: "The writer's 3 no longer
-- occurs."
abbrev pub Agree : {A B : Type 0} → ℕ → (A → B → Type 0) → Parsed A → Parsed B → Type 0
Agree m R (accepted a ws) (accepted b bs) = (n : ℕ) × (bs ≡ plain_of n ws) × (m ≤ n) × All Narrow (take n ws) × R a b
Agree m R (accepted a ws) (refused q) = ⊥
Agree m R (refused q) (accepted b bs) = ⊥
Agree m R (refused q) (refused r) = (q ≡ r) × (¬ (q ≡ 3))

-- the parsers agree on every list of values, if its plain bytes have room for k numbers more than are to be left
unfoldable pub Sim : {A B : Type 0} → ℕ → Parser A → Parser B → (A → B → Type 0) → Type 0
Sim k p p' R = (ws : List ℕ) (n m : ℕ) → All Narrow (take n ws) → k + m ≤ n → Agree m R (p ws) (p' (plain_of n ws))

-- equal values with a property
abbrev pub Same : {A : Type 0} → (A → Type 0) → A → A → Type 0
Same P a b = (a ≡ b) × P a

-- of a value nothing is said
abbrev pub Any : {A : Type 0} → A → Type 0
Any a = Unit {0}

-- a question after the first three, asked of both
both_refuse : (q : ℕ) → 3 < q → (q ≡ q) × (¬ (q ≡ 3))
both_refuse q later = (refl, λ e. omega arith)

-- ---- plain bytes

-- a plain byte is a number by itself
plain-read : (w : ℕ) (bs : List ℕ) → unsigned (plain_byte w ∷ bs) ≡ accepted (plain_byte w) bs
plain-read w bs = ap (λ (xs : List ℕ). unsigned (xs ++ bs)) (sym (one_byte (plain_byte w) (omega arith))) ∙ read_back (plain_byte w) bs (omega arith)

plain_value : (w : ℕ) (bs : List ℕ) → unsigned_of value_width (plain_byte w ∷ bs) ≡ accepted (plain_byte w) bs
unfolding encoded_value
plain_value w bs =
    ap (λ (xs : List ℕ). unsigned_of value_width (xs ++ bs)) (sym (same-encoded (plain_byte w) (omega arith) ∙ one_byte (plain_byte w) (omega arith)))
    ∙ value-read-back (plain_byte w) bs (omega arith)

-- ---- one parser after another

module _ {A B C D : Type 0} (j k : ℕ) (p : Parser A) (p' : Parser B) (f : A → Parser C) (f' : B → Parser D) (R : A → B → Type 0) (S : C → D → Type 0)
    (hf : (a : A) (b : B) → R a b → Sim k (f a) (f' b) S) where
  pub sim_bind : Sim j p p' R → Sim (j + k) (p >>= f) (p' >>= f') S
  unfolding Sim
  sim_bind hp ws n m narrow h = go (p ws) (p' (plain_of n ws)) (hp ws n (k + m) narrow (omega arith))
    where
      go : (r : Parsed A) (r' : Parsed B) → Agree (k + m) R r r' → Agree m S (and_then f r) (and_then f' r')
      go (refused q) (refused q') e = e
      go (refused q) (accepted b bs) e = absurd e
      go (accepted a ws') (refused q') e = absurd e
      go (accepted a ws') (accepted b bs) (n', e, l, c, ab) = subst (λ (x : List ℕ). Agree m S (f a ws') (f' b x)) (sym e) (hf a b ab ws' n' m c l)

-- after equal values
pub sim_bind_same : {A C D : Type 0} (j k : ℕ) (p p' : Parser A) (f : A → Parser C) (f' : A → Parser D) (P : A → Type 0) (S : C → D → Type 0)
    → Sim j p p' (Same P) → ((a : A) → P a → Sim k (f a) (f' a) S) → Sim (j + k) (p >>= f) (p' >>= f') S
sim_bind_same j k p p' f f' P S hp hf = sim_bind j k p p' f f' (Same P) S (λ a b ab. subst (λ x. Sim k (f a) (f' x) S) ab.0 (hf a ab.1)) hp

module _ {A B : Type 0} where
  pub sim_return : (a : A) (b : B) (R : A → B → Type 0) → R a b → Sim 0 (return a) (return b) R
  unfolding Sim
  sim_return a b R ab ws n m narrow h = (n, refl, omega arith, narrow, ab)

  -- more room
  pub sim_room : (j k : ℕ) (p : Parser A) (p' : Parser B) (R : A → B → Type 0) → j ≤ k → Sim j p p' R → Sim k p p' R
  unfolding Sim
  sim_room j k p p' R l hp ws n m narrow h = hp ws n m narrow (omega arith)

  -- the same question of both
  pub sim_asked : (k q : ℕ) (x y : Bool) (p : Parser A) (p' : Parser B) (R : A → B → Type 0) → 3 < q → x ≡ y
      → (x ≡ true → Sim k p p' R) → Sim k (ask q x >> p) (ask q y >> p') R
  unfolding Sim
  sim_asked k q x y p p' R later xy hp = subst (λ (z : Bool). Sim k (ask q x >> p) (ask q z >> p') R) xy (by x hp)
    where
      by : (x : Bool) → (x ≡ true → Sim k p p' R) → Sim k (ask q x >> p) (ask q x >> p') R
      by true hp = hp refl
      by false hp = λ ws n m narrow h. both_refuse q later

-- and nothing behind it
pub sim_question : (q : ℕ) (x : Bool) → 3 < q → Sim 0 (ask q x) (ask q x) (Same Any)
unfolding Sim
sim_question q true later = λ ws n m narrow h. (n, refl, omega arith, narrow, (refl, tt))
sim_question q false later = λ ws n m narrow h. both_refuse q later

-- what the second parser's values satisfy, where both have equal ones
pub sim_gives : {A : Type 0} (k : ℕ) (p p' : Parser A) (P Q : A → Type 0) → Reads p' (λ a u. Q a) → Sim k p p' (Same P) → Sim k p p' (Same Q)
unfolding Reads Sim
sim_gives {A} k p p' P Q gives hp ws n m narrow h = go (p ws) (p' (plain_of n ws)) refl (hp ws n m narrow h)
  where
    go : (r r' : Parsed A) → p' (plain_of n ws) ≡ r' → Agree m (Same P) r r' → Agree m (Same Q) r r'
    go (refused q) (refused q') i e = e
    go (refused q) (accepted b bs) i e = e
    go (accepted a ws') (refused q') i e = absurd e
    go (accepted a ws') (accepted b bs) i (n', e, l, c, ab) = let (u, used, q) = gives (plain_of n ws) b bs i in (n', e, l, c, (ab.0, subst Q (sym ab.0) q))

-- ---- one number

-- as a count, a name or a kind: no number that passes the test is large
module _ {A B : Type 0} (k q : ℕ) (test : ℕ → Bool) (f : ℕ → Parser A) (f' : ℕ → Parser B) (R : A → B → Type 0) (later : 3 < q)
    (small : (v : ℕ) → test v ≡ true → v < largest) (hf : (v : ℕ) → test v ≡ true → Sim k (f v) (f' v) R) where
  -- the number v, with the byte b, and what follows both
  number_step : (v b : ℕ) → b ≡ min v largest → (n m : ℕ) (ws : List ℕ) → All Narrow (take n ws) → k + m ≤ n
      → Agree m R ((ask q (test v) >> f v) ws) ((ask q (test b) >> f' b) (plain_of n ws))
  unfolding Sim
  number_step v b is n m ws narrow room = by (test v) refl
    where
      by : (x : Bool) → test v ≡ x → Agree m R ((ask q (test v) >> f v) ws) ((ask q (test b) >> f' b) (plain_of n ws))
      by true e =
          let l : v < largest = small v e in
          let vb : b ≡ v = is ∙ omega arith in
          rw (vb, e) (hf v e ws n m narrow room)
      by false e = rw (e, no (test b) refl) (both_refuse q later)
        where
          no : (y : Bool) → test b ≡ y → test b ≡ false
          no false e' = e'
          no true e' =
              let l : b < largest = small b e' in
              let vb : v ≡ b = omega arith in
              ap test (sym vb) ∙ e

  pub sim_number : Sim (1 + k) (number_list.number >>= λ v. ask q (test v) >> f v) (unsigned >>= λ v. ask q (test v) >> f' v) R
  unfolding Sim
  sim_number ws zero m narrow h = absurd (omega arith)
  sim_number [] (suc n) m narrow h = (refl, λ e. omega arith)
  sim_number (w ∷ ws) (suc n) m (more fits narrow) h =
      rw (plain-read w (plain_of n ws)) (number_step (unsigned_by (unfold_signed w)) (plain_byte w) refl n m ws narrow (omega arith))

-- as a value: any of 64 bits is taken
pub sim_folded : Sim 1 number_list.folded (unsigned_of value_width) (λ a b. Unit {0})
unfolding Sim
sim_folded ws zero m narrow h = absurd (omega arith)
sim_folded [] (suc n) m narrow h = (refl, λ e. omega arith)
sim_folded (w ∷ ws) (suc n) m (more fits narrow) h =
    rw (plain_value w (plain_of n ws), le-leb w value_width.most fits) (n, refl, omega arith, narrow, tt)

-- ---- the same parser so many times

pub sim_times : {A : Type 0} (k j : ℕ) (p p' : Parser A) (P : A → Type 0) → Sim j p p' (Same P) → Sim (k * j) (times k p) (times k p') (Same Any)
sim_times zero j p p' P hp = sim_room 0 (0 * j) (return []) (return []) (Same Any) (omega arith) (sim_return [] [] (Same Any) (refl, tt))
sim_times (suc k) j p p' P hp =
    sim_room (j + (k * j + 0)) (suc k * j) (times (suc k) p) (times (suc k) p') (Same Any) (omega (arith, suc-mul k j))
    (sim_bind_same j (k * j + 0) p p' _ _ P (Same Any) hp
    (λ x px. sim_bind_same (k * j) 0 (times k p) (times k p') _ _ Any (Same Any) (sim_times k j p p' P hp)
    (λ xs h. sim_return (x ∷ xs) (x ∷ xs) (Same Any) (refl, tt))))

-- ---- the end

pub sim_ended : Sim 1 ended ended (Same Any)
unfolding Sim
sim_ended ws zero m narrow h = absurd (omega arith)
sim_ended [] (suc n) m narrow h = (suc n, refl, omega arith, narrow, (refl, tt))
sim_ended (w ∷ ws) (suc n) m narrow h = both_refuse 10 (omega arith)
