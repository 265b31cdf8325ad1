-- Rounds of ranks: what is to come is what the whole comes to. Assumes nothing.
use mathlib.Core.Path.{◌≡◌, refl, ap, ap₂, sym, ◌∙◌}
use mathlib.Core.Bool.{Bool, true, false, cond}
use mathlib.Core.List.{List}
use Prim.Native.Nat.{ℕ, suc, ◌+◌, ◌-◌, ◌≤◌, ◌<◌}
use native.Mathlib.Numerals.{add-one}
use native.Mathlib.Omega.{arith}
use lib.ListN.{replicate}
use Rattle.guard.specs.Closure.{State}
use Rattle.ranks.specs.Ranks.{Ranking, no_ranks, raised_to, raises_to, rank_from, ranking_of}

module _ (shapes : List ℕ) (s : State) where
  abbrev pub Left : ℕ → List ℕ → Type 0
  Left round ranks = ranking_of shapes s ≡ rank_from shapes s (32 - round) round ranks

  pub rank-start : Left 1 (replicate 96 0)
  unfolding ranking_of no_ranks
  rank-start = refl

  module _ (round : ℕ) (ranks : List ℕ) (is : Left round ranks) where
    pub rank_out : 32 ≤ round → (false ≡ (ranking_of shapes s).falls) × (ranks ≡ (ranking_of shapes s).ranks)
    unfolding rank_from
    rank_out h =
        let z : 32 - round ≡ 0 = omega arith in
        let e : ranking_of shapes s ≡ record { falls = false; ranks = ranks } = is ∙ ap (λ (n : ℕ). rank_from shapes s n round ranks) z in
        (sym (ap (λ (x : Ranking). x.falls) e), sym (ap (λ (x : Ranking). x.ranks) e))

    module _ (h : round < 32) (more : Bool) (is_more : more ≡ raises_to shapes s round 30 ranks) (next : List ℕ) (is_next : next ≡ raised_to shapes s round 30 ranks) where
      step : ranking_of shapes s ≡ cond more (rank_from shapes s (32 - (round + 1)) (round + 1) next) (record { falls = true; ranks = next })
      unfolding rank_from
      step =
          let z : 32 - round ≡ suc (32 - (round + 1)) = omega arith in
          let then : Bool → List ℕ → ℕ → Ranking = λ b l n. cond b (rank_from shapes s (32 - (round + 1)) n l) (record { falls = true; ranks = l }) in
          is ∙ ap (λ (n : ℕ). rank_from shapes s n round ranks) z ∙ ap₂ (λ (b : Bool) (l : List ℕ). then b l (suc round)) (sym is_more) (sym is_next) ∙ ap (then more next) (sym (add-one round))

      pub rank_stop : more ≡ false → (true ≡ (ranking_of shapes s).falls) × (next ≡ (ranking_of shapes s).ranks)
      rank_stop e =
          let q : ranking_of shapes s ≡ record { falls = true; ranks = next } = step ∙ ap (λ (b : Bool). cond b (rank_from shapes s (32 - (round + 1)) (round + 1) next) (record { falls = true; ranks = next })) e in
          (sym (ap (λ (x : Ranking). x.falls) q), sym (ap (λ (x : Ranking). x.ranks) q))

      pub rank-next : more ≡ true → Left (round + 1) next
      rank-next e = step ∙ ap (λ (b : Bool). cond b (rank_from shapes s (32 - (round + 1)) (round + 1) next) (record { falls = true; ranks = next })) e
