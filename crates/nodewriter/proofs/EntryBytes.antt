-- The bytes of entries: all their numbers take a byte each. So a closing is written as its two numbers, and a split as three. Assumes nothing.
use mathlib.Core.Path.{◌≡◌, refl, ap, ap₂, sym, ◌∙◌}
use mathlib.Core.List.{List, [], ◌∷◌, ◌++◌, append_assoc}
use Prim.Native.Nat.{ℕ, ◌≤◌, ◌<◌}
use native.Mathlib.Omega.{arith}
use Rattle.std.specs.Prelude.{Option, Some}
use Rattle.laws.specs.All.{All, All.more, All.none}
use Rattle.laws.specs.Lists.{concat_map}
use Rattle.guard.specs.Closure.{State}
use Rattle.guard.specs.Node.{Split}
use Rattle.encoding.specs.Encoding.{encoded}
use Rattle.encoding.proofs.ReadBack.{one_byte}
use Rattle.refutations.specs.Record.{Entry, Entry.split_on, bytes_of, numbers_of}
use Rattle.instance.specs.declared.Instance.{Instance}
use Rattle.closings.specs.declared.Closing.{Closing}
use Rattle.closings.specs.declared.Closing.TheVariants.{BrokenLine, EmptyLabel, InsideItself, UnlikeConstants}
use Rattle.closings.specs.Closing.{Names, entry_in}

plain : (ns : List ℕ) → All (λ n. n < 128) ns → concat_map encoded ns ≡ ns
plain [] none = refl
plain (n ∷ ns) (more h hs) = ap₂ (λ (bs cs : List ℕ). bs ++ cs) (one_byte n h) (plain ns hs)

pub bytes-append : (es fs : List Entry) → concat_map bytes_of (es ++ fs) ≡ concat_map bytes_of es ++ concat_map bytes_of fs
bytes-append [] fs = refl
bytes-append (e ∷ es) fs = ap (λ (bs : List ℕ). bytes_of e ++ bs) (bytes-append es fs) ∙ sym (append_assoc (bytes_of e) (concat_map bytes_of es) (concat_map bytes_of fs))

pub split-bytes : (d : Split) → d.term < 128 → d.variant < 128 → bytes_of (split_on d) ≡ 4 ∷ d.term ∷ d.variant ∷ []
split-bytes d h k = plain (4 ∷ d.term ∷ d.variant ∷ []) (more (omega arith) (more h (more k none)))

-- what code names at a node of an instance
abbrev pub Named : Instance → State → Option Closing → Type 0
Named i = Names i.shapes.slots i.sorts.sorts i.sorts.full i.constants.sorts i.constants.values i.lines.kinds i.lines.terms i.lines.others i.lines.many

-- a closing has two numbers below 128
module _ (i : Instance) (s : State) (few : i.lines.many ≤ 64) {reason number : ℕ} where
  small : (c : Closing) → Named i s (Some c) → numbers_of (entry_in c) ≡ reason ∷ number ∷ [] → (reason < 128) × (number < 128)
  small (EmptyLabel x) n e = let p : 0 ≡ reason = cc in let q : x ≡ number = cc in (omega (arith, p), omega (arith, q, n.0))
  small (BrokenLine j) n e = let p : 1 ≡ reason = cc in let q : j ≡ number = cc in (omega (arith, p), omega (arith, q, n.1, few))
  small (UnlikeConstants x) n e = let p : 2 ≡ reason = cc in let q : x ≡ number = cc in (omega (arith, p), omega (arith, q, n.2))
  small (InsideItself x) n e = let p : 3 ≡ reason = cc in let q : x ≡ number = cc in (omega (arith, p), omega (arith, q, n.3))

  pub closing-bytes : (c : Closing) → Named i s (Some c) → numbers_of (entry_in c) ≡ reason ∷ number ∷ [] → bytes_of (entry_in c) ≡ reason ∷ number ∷ []
  closing-bytes c n e = let (p, q) = small c n e in ap (concat_map encoded) e ∙ plain (reason ∷ number ∷ []) (more p (more q none))
