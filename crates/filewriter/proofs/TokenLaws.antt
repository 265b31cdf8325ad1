-- Tokens by their marks: a value is folded, any other number is written as it is. Assumes nothing.
use mathlib.Core.Path.{◌≡◌, refl, ap, sym, ◌∙◌}
use mathlib.Core.List.{List, [], ◌∷◌, ◌++◌, append-nil, map}
use Prim.Native.Nat.{ℕ, zero, suc, ◌+◌, ◌≤◌, ◌<◌}
use native.Mathlib.Numerals.{add-one}
use native.Mathlib.Omega.{arith}
use lib.IntN.{ℤ, pos}
use lib.ListN.{length, get_or, drop, take, length-map}
use lib.Seq.{take_all}
use Rattle.laws.specs.Lists.{concat_map}
use Rattle.laws.proofs.Lists.{all_get_d}
use Rattle.guard.specs.Number.{fold_signed, width32, width64}
use Rattle.tables.proofs.Columns.{pad_get}
use Rattle.tables.proofs.Lookups.{map_at}
use Rattle.encoding.specs.Encoding.{encoded_of, encoded_value}
use Rattle.encoding.proofs.ReadBack.{same-encoded}
use Rattle.serialize.specs.Tokens.{Fits, Token, Token.plain, Token.value, listed, token_bytes, unsigned_of}
use Rattle.serialize.proofs.Copying.{concat_map-append}
use mir.Syntax.{w64}
use mir.Val.{SFits, of_z, to_z}
use mir.Facts.{to_z-of_z}
use Rattle.std.specs.Prelude.{Option, Some, None}
use Rattle.bytebuffer.specs.declared.Writer.{Writer}
use Rattle.bytebuffer.specs.Appends.{Appends}
use Rattle.bytebuffer.proofs.PutLaws.{and_then, from_start, full_from_start, nothing, same-bytes, still_full}
use Rattle.valuemarks.specs.Marks.{mark_of, room}
use Rattle.filewriter.specs.Marking.{HasTokens, Marked, NumberMarked, PutsTokens, WrittenAs}

-- ---- one token

pub value-folded : (k : Token) → mark_of k ≡ 1 → fold_signed (listed k) ≡ unsigned_of k
value-folded (plain n) e = absurd (omega (arith, e))
value-folded (value z) e = refl

pub plain-listed : (k : Token) → ¬ (mark_of k ≡ 1) → listed k ≡ pos (unsigned_of k)
plain-listed (plain n) h = refl
plain-listed (value z) h = absurd (h refl)

pub plain_fits : (k : Token) → ¬ (mark_of k ≡ 1) → Fits k → unsigned_of k ≤ width32.most
plain_fits (plain n) h f = f
plain_fits (value z) h f = absurd (h refl)

-- a count or a name has the bytes that it has among values
pub token-encoded : (k : Token) → Fits k → encoded_of width64 (unsigned_of k) ≡ token_bytes k
unfolding encoded_value
token-encoded (plain n) h = same-encoded n h
token-encoded (value z) h = refl

-- ---- a list and its marks

abbrev pub bytes : List Token → List ℕ
bytes ks = concat_map token_bytes ks

abbrev token_at : List Token → ℕ → Token
token_at ks i = get_or ks i (plain 0)

take_next : (ks : List Token) (i : ℕ) → i < length ks → take (suc i) ks ≡ take i ks ++ (token_at ks i ∷ [])
take_next [] i h = absurd (omega arith)
take_next (k ∷ ks) zero h = refl
take_next (k ∷ ks) (suc i) h = ap (λ (l : List Token). k ∷ l) (take_next ks i (omega arith))

take-drop : (ks : List Token) (i : ℕ) → take i ks ++ drop i ks ≡ ks
take-drop ks zero = refl
take-drop [] (suc i) = refl
take-drop (k ∷ ks) (suc i) = ap (λ (l : List Token). k ∷ l) (take-drop ks i)

module _ {list : List ℤ} {marks : List ℕ} {ks : List Token} (m : Marked list marks ks) where
  pub as_long : length list ≡ length ks
  as_long = ap length m.are ∙ length-map ks listed

  module _ (i : ℕ) (inside : i < length list) where
    in_tokens : i < length ks
    in_tokens = omega (arith, as_long)

    number_is : get_or list i (pos 0) ≡ listed (token_at ks i)
    number_is = ap (λ (l : List ℤ). get_or l i (pos 0)) m.are ∙ map_at listed ks i (plain 0) (pos 0) in_tokens

    mark_is : get_or marks i 0 ≡ mark_of (token_at ks i)
    mark_is = ap (λ (l : List ℕ). get_or l i 0) m.marked ∙ pad_get 0 room i (map mark_of ks) ∙ map_at mark_of ks i (plain 0) 0 in_tokens

    pub token-marked : (x : ℤ) → get_or list i (pos 0) ≡ x → NumberMarked x (get_or marks i 0)
    token-marked x e = record { token = token_at ks i; is = sym e ∙ number_is; marked = mark_is; fits = all_get_d m.fit i (plain 0) in_tokens }

    written_is : (x : ℤ) → get_or list i (pos 0) ≡ x → (n : ℕ) → WrittenAs x (get_or marks i 0) n → n ≡ unsigned_of (token_at ks i)
    written_is x e n w = w.is (token_at ks i) (sym e ∙ number_is) mark_is

    one_more : {w w' w'' : Writer} {r : Option (Unit {0})} → Appends (bytes (take i ks)) w (Some tt) w' → (x : ℤ) → get_or list i (pos 0) ≡ x → (n : ℕ) → WrittenAs x (get_or marks i 0) n
        → Appends (encoded_of width64 n) w' r w'' → Appends (bytes (take (i + 1) ks)) w r w''
    one_more p x ex n k q =
        same-bytes
        (ap (λ (l : List ℕ). bytes (take i ks) ++ l) (ap (encoded_of width64) (written_is x ex n k) ∙ token-encoded (token_at ks i) (all_get_d m.fit i (plain 0) in_tokens) ∙ sym (append-nil (token_bytes (token_at ks i))))
        ∙ sym (concat_map-append token_bytes (take i ks) (token_at ks i ∷ [])) ∙ ap bytes (sym (take_next ks i in_tokens)) ∙ ap (λ (k : ℕ). bytes (take k ks)) (sym (add-one i)))
        (and_then p q)

    none_more : {w w' : Writer} → Appends (bytes (take (i + 1) ks)) w None w' → Appends (bytes ks) w None w'
    none_more p = same-bytes (sym (concat_map-append token_bytes (take (i + 1) ks) (drop (i + 1) ks)) ∙ ap bytes (take-drop ks (i + 1))) (still_full (bytes (drop (i + 1) ks)) p)

-- ---- the numbers before i, for all tokens that the list and its marks may be of

pub record NumbersPut (list : List ℤ) (marks : List ℕ) (w : Writer) (i : ℕ) (w' : Writer) : Type 0 where
  pub same : w'.out.ghost_name ≡ w.out.ghost_name
  pub puts : (ks : List Token) → Marked list marks ks → Appends (bytes (take i ks)) w (Some tt) w'

module _ {list : List ℤ} {marks : List ℕ} where
  pub numbers_begin : {w : Writer} → NumbersPut list marks w 0 w
  numbers_begin {w} = record { same = refl; puts = λ ks m. nothing w }

  pub number_marked : HasTokens list marks → {i : ℕ} → i < length list → SFits w64 (get_or list i (pos 0)) → NumberMarked (to_z w64 (of_z w64 (get_or list i (pos 0)))) (get_or marks i 0)
  number_marked t {i} h f = token-marked t.marked i h _ (sym (to_z-of_z f))

  module _ {w w' : Writer} {i : ℕ} (p : NumbersPut list marks w i w') where
    module _ (h : i < length list) (f : SFits w64 (get_or list i (pos 0))) {n : ℕ} (k : WrittenAs (to_z w64 (of_z w64 (get_or list i (pos 0)))) (get_or marks i 0) n) {w'' : Writer} where
      pub numbers_next : Appends (encoded_of width64 n) w' (Some tt) w'' → NumbersPut list marks w (i + 1) w''
      numbers_next q = record { same = q.same ∙ p.same; puts = λ ks m. one_more m i h (p.puts ks m) _ (sym (to_z-of_z f)) n k q }

      pub numbers_full : Appends (encoded_of width64 n) w' None w'' → {out : List ℕ} → w.out.now ≡ out → w.at ≡ 0 → PutsTokens list marks out None w''.out.now
      numbers_full q o z = record { puts = λ ks m. full_from_start o z (none_more m i h (one_more m i h (p.puts ks m) _ (sym (to_z-of_z f)) n k q)) }

    pub numbers_all : length list ≤ i → {out : List ℕ} → w.out.now ≡ out → w.at ≡ 0 → PutsTokens list marks out (Some w'.at) w'.out.now
    numbers_all h o z = record { puts = λ ks m. from_start o z (same-bytes (ap bytes (take_all i ks (omega (arith, as_long m)))) (p.puts ks m)) }

pub ruleset number_laws = (number_marked, numbers_begin, numbers_next, numbers_full, numbers_all)
