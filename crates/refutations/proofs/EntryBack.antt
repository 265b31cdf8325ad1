-- An entry that is written is read back, and takes as many bytes as it has numbers, at most three. Assumes nothing.
use mathlib.Core.Path.{◌≡◌, refl, ap, ◌∙◌}
use mathlib.Core.List.{List, [], ◌∷◌, ◌++◌, append_assoc}
use Prim.Native.Nat.{ℕ, ◌≤◌, ◌<◌}
use native.Mathlib.Omega.{arith}
use lib.ListN.{length}
use Rattle.laws.specs.All.{All, All.more, All.none}
use Rattle.laws.specs.Lists.{concat_map}
use Rattle.guard.specs.Number.{Parsed, Parsed.accepted, ◌>>=◌, and_then, return, unsigned}
use Rattle.encoding.specs.Encoding.{encoded}
use Rattle.encoding.proofs.ReadBack.{one_byte, read_back}
use Rattle.refutations.specs.Checker.{entry, entry_of, refused_as}
use Rattle.refutations.specs.Record.{Entry, Entry.empty, Entry.inside, Entry.split_on, Entry.unequal_line, Entry.unlike, bytes_of, numbers_of}

-- each number takes one byte
abbrev pub Small : Entry → Type 0
Small e = All (λ n. n < 128) (numbers_of e)

number-back : (n : ℕ) (bs rest : List ℕ) → n < 128 → unsigned ((encoded n ++ bs) ++ rest) ≡ accepted n (bs ++ rest)
number-back n bs rest h = ap unsigned (append_assoc (encoded n) bs rest) ∙ read_back n (bs ++ rest) (omega arith)

-- a kind, and what is read after it
kind-back : (k : ℕ) (bs rest : List ℕ) → k < 128 → entry ((encoded k ++ bs) ++ rest) ≡ refused_as 12 (entry_of k (bs ++ rest))
kind-back k bs rest h = ap (λ (p : Parsed ℕ). refused_as 12 (and_then entry_of p)) (number-back k bs rest h)

-- one number after the kind
one-back : (make : ℕ → Entry) (i : ℕ) (rest : List ℕ) → i < 128 → refused_as 12 ((unsigned >>= λ n. return (make n)) ((encoded i ++ []) ++ rest)) ≡ accepted (make i) rest
one-back make i rest h = ap (λ (p : Parsed ℕ). refused_as 12 (and_then (λ n. return (make n)) p)) (number-back i [] rest h)

pub entry-back : (e : Entry) (rest : List ℕ) → Small e → entry (bytes_of e ++ rest) ≡ accepted e rest
entry-back (empty i) rest (more k (more h hs)) = kind-back 0 (encoded i ++ []) rest k ∙ one-back empty i rest h
entry-back (unequal_line j) rest (more k (more h hs)) = kind-back 1 (encoded j ++ []) rest k ∙ one-back unequal_line j rest h
entry-back (unlike i) rest (more k (more h hs)) = kind-back 2 (encoded i ++ []) rest k ∙ one-back unlike i rest h
entry-back (inside i) rest (more k (more h hs)) = kind-back 3 (encoded i ++ []) rest k ∙ one-back inside i rest h
entry-back (split_on d) rest (more k (more h (more w hs))) =
    kind-back 4 (encoded d.term ++ (encoded d.variant ++ [])) rest k
    ∙ ap (λ (p : Parsed ℕ). refused_as 12 (and_then (λ i. unsigned >>= λ v. return (split_on (record { term = i; variant = v }))) p)) (number-back d.term (encoded d.variant ++ []) rest h)
    ∙ one-back (λ v. split_on (record { term = d.term; variant = v })) d.variant rest w

pub few_bytes : (e : Entry) → Small e → length (bytes_of e) ≤ 3
few_bytes e h = omega (arith, each (numbers_of e) h, three e)
  where
    each : (ns : List ℕ) → All (λ n. n < 128) ns → length (concat_map encoded ns) ≡ length ns
    each [] none = refl
    each (n ∷ ns) (more h hs) = ap (λ (bs : List ℕ). length (bs ++ concat_map encoded ns)) (one_byte n h) ∙ omega (arith, each ns hs)

    three : (e : Entry) → length (numbers_of e) ≤ 3
    three (empty i) = omega arith
    three (unequal_line j) = omega arith
    three (unlike i) = omega arith
    three (inside i) = omega arith
    three (split_on d) = omega arith
