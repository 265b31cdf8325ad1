-- Lines of pairs: those of one lower branch are lines of a list under its name, and all of them are put by lower branch. Assumes nothing.
use mathlib.Core.Path.{◌≡◌, refl, ap, sym, subst, ◌∙◌}
use mathlib.Core.Bool.{Bool, true, false}
use mathlib.Core.List.{List, [], ◌∷◌, ◌++◌, append_assoc, map}
use Prim.Native.Nat.{ℕ, suc, ◌+◌, ◌-◌, ◌*◌, ◌≤◌, ◌<◌}
use native.Mathlib.Omega.{arith}
use lib.Dec.{eqb}
use lib.ListN.{length, drop, length-map}
use lib.Seq.{drop-drop}
use Rattle.laws.specs.Lists.{concat_map, cons_if, from}
use Rattle.laws.proofs.Lists.{from-length}
use Rattle.bytebuffer.specs.declared.Writer.{Writer}
use Rattle.writing.specs.Wrote.{Wrote}
use Rattle.writing.proofs.Partly.{Partly, partly_all, partly_next, partly_room}
use Rattle.writing.proofs.Writing.{more_room, nothing}
use Rattle.writing.proofs.Wrote.{as_written, by_written}
use Rattle.branches.specs.Verdicts.{Pair, having_code, pairs_from}
use Rattle.branches.proofs.PairCount.{few-counted, pair_count}
use Rattle.branchtext.specs.BranchText.{line, lines, lines_of_pairs, name_of, pair_line, pairs_of}

abbrev pair : ℕ → ℕ → Pair
pair i j = record { lower = i; higher = j }

-- ---- one lower branch

pub by_name : (word : List ℕ) (code n i place : ℕ) (cs : List ℕ) → lines (name_of word i) code n (i + 1) place cs ≡ pairs_of word code n i place cs
unfolding lines pairs_of pair_line
by_name word code n i place cs =
    let e : i + 1 ≡ suc i = omega arith in
    ap (λ (k : ℕ). concat_map (line (name_of word i)) (having_code code (from n k) (drop place cs))) e ∙ go (from n (suc i)) (drop place cs)
  where
    one : (b : Bool) (j : ℕ) (xs : List ℕ) (ps : List Pair) → concat_map (line (name_of word i)) xs ≡ concat_map (pair_line word) ps
        → concat_map (line (name_of word i)) (cons_if b j xs) ≡ concat_map (pair_line word) (cons_if b (pair i j) ps)
    one true j xs ps h = ap (λ (l : List ℕ). line (name_of word i) j ++ l) h
    one false j xs ps h = h

    go : (js cs : List ℕ) → concat_map (line (name_of word i)) (having_code code js cs) ≡ concat_map (pair_line word) (having_code code (map (pair i) js) cs)
    go [] cs = refl
    go (j ∷ js) [] = refl
    go (j ∷ js) (c ∷ cs) = one (eqb c code) j (having_code code js cs) (having_code code (map (pair i) js) cs) (go js cs)

-- ---- all of them

having_append : (code : ℕ) (xs ys : List Pair) (cs : List ℕ) → having_code code (xs ++ ys) cs ≡ having_code code xs cs ++ having_code code ys (drop (length xs) cs)
having_append code [] ys cs = refl
having_append code (x ∷ xs) [] [] = refl
having_append code (x ∷ xs) (y ∷ ys) [] = refl
having_append code (x ∷ xs) ys (c ∷ cs) = one (eqb c code) (having_append code xs ys cs)
  where
    one : (b : Bool) → having_code code (xs ++ ys) cs ≡ having_code code xs cs ++ having_code code ys (drop (length xs) cs)
        → cons_if b x (having_code code (xs ++ ys) cs) ≡ cons_if b x (having_code code xs cs) ++ having_code code ys (drop (length xs) cs)
    one true h = ap (λ (l : List Pair). x ∷ l) h
    one false h = h

concat_append : (f : Pair → List ℕ) (xs ys : List Pair) → concat_map f (xs ++ ys) ≡ concat_map f xs ++ concat_map f ys
concat_append f [] ys = refl
concat_append f (x ∷ xs) ys = ap (λ (l : List ℕ). f x ++ l) (concat_append f xs ys) ∙ sym (append_assoc (f x) (concat_map f xs) (concat_map f ys))

pairs_next : (word : List ℕ) (code m i place : ℕ) (cs : List ℕ) → lines_of_pairs word code (suc m) i place cs ≡ pairs_of word code m i place cs ++ lines_of_pairs word code m (suc i) (place + m) cs
unfolding lines_of_pairs pairs_of
pairs_next word code m i place cs =
    let front : List Pair = map (pair i) (from m (suc i)) in
    let long : length front ≡ m = length-map (from m (suc i)) (pair i) ∙ from-length m (suc i) in
    ap (concat_map (pair_line word)) (having_append code front (pairs_from m (suc i)) (drop place cs)) ∙ concat_append (pair_line word) (having_code code front (drop place cs)) (having_code code (pairs_from m (suc i)) (drop (length front) (drop place cs)))
    ∙ ap (λ (l : List ℕ). concat_map (pair_line word) (having_code code front (drop place cs)) ++ concat_map (pair_line word) (having_code code (pairs_from m (suc i)) l))
    (ap (λ (k : ℕ). drop k (drop place cs)) long ∙ drop-drop m place cs)

module _ (word : List ℕ) (code many : ℕ) (cs : List ℕ) where
  -- the loop, before branch i
  pub record Put (w w' : Writer) (place i : ℕ) : Type 0 where
    pub room : place + pair_count (many - i) ≤ 36
    pub same : w'.out.ghost_name ≡ w.out.ghost_name
    pub long : length w'.out.now ≡ length w.out.now
    pub puts : Partly (256 * i) (lines_of_pairs word code many 0 many cs) (lines_of_pairs word code (many - i) i place cs) w.out.now w.at w'.out.now w'.at

  pub put_none : (w : Writer) → many ≤ 8 → Put w w many 0
  put_none w few =
      let e : many - 0 ≡ many = omega arith in
      record {
        room = subst (λ (k : ℕ). many + pair_count k ≤ 36) (sym e) (omega (arith, few-counted many few));
        same = refl;
        long = refl;
        puts = record { text = []; written = more_room (256 * 0) (omega arith) (nothing (omega (arith, w.at_in_bounds))); whole = ap (λ (k : ℕ). lines_of_pairs word code k 0 many cs) e };
      }

  module _ {w w' : Writer} {place i : ℕ} (s : Put w w' place i) where
    module _ (more : i < many) where
      one_less : many - i ≡ suc (many - i - 1)
      one_less = omega arith

      room_now : place + ((many - i - 1) + pair_count (many - i - 1)) ≤ 36
      room_now = subst (λ (k : ℕ). place + pair_count k ≤ 36) one_less s.room

      pub put_more : {w'' : Writer} → many ≤ 8 → Wrote (32 * (many - i - 1)) (pairs_of word code (many - i - 1) i place cs) w' w'' → Put w w'' (place + (many - i - 1)) (i + 1)
      put_more few p =
          let m : ℕ = many - i - 1 in
          let a : many - (i + 1) ≡ m = omega arith in
          let b : i + 1 ≡ suc i = omega arith in
          let l : lines_of_pairs word code (many - i) i place cs ≡ pairs_of word code m i place cs ++ lines_of_pairs word code (many - (i + 1)) (i + 1) (place + m) cs =
          ap (λ (k : ℕ). lines_of_pairs word code k i place cs) one_less ∙ pairs_next word code m i place cs
          ∙ ap (λ (k : ℕ). pairs_of word code m i place cs ++ lines_of_pairs word code k (suc i) (place + m) cs) (sym a)
          ∙ ap (λ (k : ℕ). pairs_of word code m i place cs ++ lines_of_pairs word code (many - (i + 1)) k (place + m) cs) (sym b) in
          record {
            room = subst (λ (k : ℕ). (place + m) + pair_count k ≤ 36) (sym a) (omega (arith, room_now));
            same = p.same ∙ s.same;
            long = p.long ∙ s.long;
            puts = partly_room (256 * (i + 1)) (omega arith) (partly_next (pairs_of word code m i place cs) (lines_of_pairs word code (many - (i + 1)) (i + 1) (place + m) cs) s.puts (as_written p) l);
          }

    pub put_all : i ≡ many → Wrote (256 * many) (lines_of_pairs word code many 0 many cs) w w'
    unfolding lines_of_pairs
    put_all done =
        let m : many - i ≡ 0 = omega arith in
        by_written s.same (more_room (256 * many) (omega arith) (partly_all s.puts (ap (λ (k : ℕ). concat_map (pair_line word) (having_code code (pairs_from k i) (drop place cs))) m)))
