-- A list of lines, code by code: the line of the next code that is the one asked for, and then the rest. Assumes nothing.
use mathlib.Core.Path.{◌≡◌, refl, ap, ◌∙◌}
use mathlib.Core.Bool.{Bool, true, false}
use mathlib.Core.List.{List, [], ◌++◌}
use Prim.Native.Nat.{ℕ, suc, ◌+◌, ◌-◌, ◌*◌, ◌≤◌, ◌<◌}
use native.Mathlib.Omega.{arith}
use lib.Dec.{eqb}
use lib.ListN.{length, drop, get_or}
use lib.Seq.{drop-cons}
use borrow.Author.Tests.{eqb-false, eqb-true}
use Rattle.laws.proofs.Bools.{by_test}
use Rattle.laws.specs.Lists.{concat_map, cons_if, from, when}
use Rattle.bytebuffer.specs.declared.Writer.{Writer}
use Rattle.writing.specs.Wrote.{Wrote}
use Rattle.writing.proofs.Partly.{Partly, partly_all, partly_next, partly_room}
use Rattle.writing.proofs.Writing.{more_room, nothing}
use Rattle.writing.proofs.Wrote.{as_written, by_written}
use Rattle.writing.proofs.Wrote as put
use Rattle.branches.specs.Verdicts.{having_code}
use Rattle.branchtext.specs.BranchText.{line, lines}

module _ (name : List ℕ) (code n first place : ℕ) (cs : List ℕ) where
  -- the lines left before the k-th
  abbrev left : ℕ → List ℕ
  left k = concat_map (line name) (having_code code (from (n - k) (first + k)) (drop (place + k) cs))

  first-is : left 0 ≡ lines name code n first place cs
  unfolding lines
  first-is =
      let a : n - 0 ≡ n = omega arith in
      let b : first + 0 ≡ first = omega arith in
      let d : place + 0 ≡ place = omega arith in
      ap (λ (m : ℕ). concat_map (line name) (having_code code (from m (first + 0)) (drop (place + 0) cs))) a
      ∙ ap (λ (m : ℕ). concat_map (line name) (having_code code (from n m) (drop (place + 0) cs))) b
      ∙ ap (λ (m : ℕ). concat_map (line name) (having_code code (from n first) (drop m cs))) d

  -- the loop, before the k-th
  pub record Put (w w' : Writer) (k : ℕ) : Type 0 where
    pub same : w'.out.ghost_name ≡ w.out.ghost_name
    pub long : length w'.out.now ≡ length w.out.now
    pub puts : Partly (32 * k) (lines name code n first place cs) (left k) w.out.now w.at w'.out.now w'.at

  pub put_none : (w : Writer) → Put w w 0
  put_none w =
      record { same = refl; long = refl; puts = record { text = []; written = more_room (32 * 0) (omega arith) (nothing (omega (arith, w.at_in_bounds))); whole = first-is } }

  module _ {w w' : Writer} {k : ℕ} (s : Put w w' k) where
    module _ (more : k < n) (there : place + k < length cs) where
      -- by whether the next code is the one asked for
      left_by_lem : (b : Bool) → eqb (get_or cs (place + k) 0) code ≡ b → left k ≡ concat_map (line name) (cons_if b (first + k) (having_code code (from (n - suc k) (suc (first + k))) (drop (suc (place + k)) cs)))
      left_by_lem b e =
          let m : n - k ≡ suc (n - suc k) = omega arith in
          ap (λ (x : ℕ). concat_map (line name) (having_code code (from x (first + k)) (drop (place + k) cs))) m
          ∙ ap (λ (l : List ℕ). concat_map (line name) (having_code code (from (suc (n - suc k)) (first + k)) l)) (drop-cons cs (place + k) 0 there)
          ∙ ap (λ (x : Bool). concat_map (line name) (cons_if x (first + k) (having_code code (from (n - suc k) (suc (first + k))) (drop (suc (place + k)) cs)))) e

      next-is : concat_map (line name) (having_code code (from (n - suc k) (suc (first + k))) (drop (suc (place + k)) cs)) ≡ left (k + 1)
      next-is =
          let a : n - suc k ≡ n - (k + 1) = omega arith in
          let b : suc (first + k) ≡ first + (k + 1) = omega arith in
          let d : suc (place + k) ≡ place + (k + 1) = omega arith in
          ap (λ (m : ℕ). concat_map (line name) (having_code code (from m (suc (first + k))) (drop (suc (place + k)) cs))) a
          ∙ ap (λ (m : ℕ). concat_map (line name) (having_code code (from (n - (k + 1)) m) (drop (suc (place + k)) cs))) b
          ∙ ap (λ (m : ℕ). concat_map (line name) (having_code code (from (n - (k + 1)) (first + (k + 1))) (drop m cs))) d

      put_next : {w'' : Writer} (b : Bool) → eqb (get_or cs (place + k) 0) code ≡ b → Wrote 32 (when b (line name (first + k))) w' w'' → Put w w'' (k + 1)
      put_next b e p =
          record {
            same = p.same ∙ s.same;
            long = p.long ∙ s.long;
            puts = partly_room (32 * (k + 1)) (omega arith) (partly_next (when b (line name (first + k))) (left (k + 1)) s.puts (as_written p) (left_by_lem b e ∙ chosen b));
          }
        where
          chosen : (x : Bool) → concat_map (line name) (cons_if x (first + k) (having_code code (from (n - suc k) (suc (first + k))) (drop (suc (place + k)) cs))) ≡ when x (line name (first + k)) ++ left (k + 1)
          chosen true = ap (λ (l : List ℕ). line name (first + k) ++ l) next-is
          chosen false = next-is

      pub next_line : get_or cs (place + k) 0 ≡ code → {w'' : Writer} → Wrote 32 (line name (first + k)) w' w'' → Put w w'' (k + 1)
      next_line is p = by_test (eqb (get_or cs (place + k) 0) code) (λ e. put_next true e p) (λ e. absurd (eqb-false (get_or cs (place + k) 0) code e is))

      pub next_none : ¬ (get_or cs (place + k) 0 ≡ code) → Put w w' (k + 1)
      next_none isnt = by_test (eqb (get_or cs (place + k) 0) code) (λ e. absurd (isnt (eqb-true (get_or cs (place + k) 0) code e))) (λ e. put_next false e (put.more_room 32 (omega arith) (put.nothing w')))

    pub put_all : n ≤ k → k ≤ n → Wrote (32 * n) (lines name code n first place cs) w w'
    put_all h l =
        let m : n - k ≡ 0 = omega arith in
        by_written s.same (more_room (32 * n) (omega arith) (partly_all s.puts (ap (λ (x : ℕ). concat_map (line name) (having_code code (from x (first + k)) (drop (place + k) cs))) m)))

pub ruleset list_laws = (put_none, next_line, next_none, put_all)
