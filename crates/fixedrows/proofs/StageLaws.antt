-- Stages of drawing in order of rank: a class that is not due is passed over, one that is due is drawn and noted, and after
-- the last class of a rank the next rank is due. Assumes nothing.
use mathlib.Core.Path.{◌≡◌, refl, ap, sym, ◌∙◌, subst}
use mathlib.Core.Bool.{true, false, false≢true}
use mathlib.Core.List.{List}
use Prim.Native.Nat.{ℕ, zero, suc, ◌+◌, ◌*◌, ◌≤◌, ◌<◌}
use native.Mathlib.Omega.{arith}
use lib.Dec.{eqb, ltb}
use lib.IntN.{ℤ}
use lib.ListN.{length, get_or, set}
use borrow.Author.Tests.{eq-eqb, eqb-false, eqb-true, ltb-false, ltb-true}
use Rattle.laws.proofs.Bools.{and_both, and_left, and_right, by_test}
use Rattle.guard.specs.Message.{Message}
use Rattle.guard.specs.Types.{Types}
use Rattle.rowstore.proofs.StoreLaws.{grown-itself, grown_twice}
use Rattle.drawnrows.specs.Drawing.{Drew}
use Rattle.plans.specs.Chosen.{is_marked}
use Rattle.plans.specs.Plans.{OpenState, is_free, marked}
use Rattle.leaf.specs.declared.Leaf.{Leaf}
use Rattle.leaf.specs.Leaf.{open_state}
use Rattle.leaf.specs.Picture.{Pictured, Wanted}
use Rattle.leaf.specs.Sheet.{HasRow, Sheet}
use Rattle.leaf.proofs.SheetLaws.{noted_kept, noted_there, sheet-low, sheet_noted, sheet-room}
use Rattle.classrow.specs.ClassRow.{FixedDrawn}
use Rattle.fixedrows.specs.Stage.{Advances, Noted, RankDrawn, Stage, Staged, is_due}

module _ (leaf : Leaf) (at : List ℕ) (n c : ℕ) where
  pub record Due : Type 0 where
    pub mark : eqb (get_or leaf.marks c 0) 0 ≡ true
    pub none : get_or at c 0 ≡ 0
    pub rank : get_or leaf.ranks c 0 ≡ n

  pub due-is : is_due leaf.marks leaf.ranks at n c ≡ true → Due
  unfolding is_due
  due-is e =
      let r = and_right (eqb (get_or leaf.marks c 0) 0) _ e in
      record { mark = and_left (eqb (get_or leaf.marks c 0) 0) _ e; none = eqb-true _ _ (and_left (eqb (get_or at c 0) 0) _ r); rank = eqb-true _ _ (and_right (eqb (get_or at c 0) 0) _ r) }

  -- a class of the rank that gets a message and is not due has a row
  pub not_due : (ts : Types) → is_due leaf.marks leaf.ranks at n c ≡ false → Wanted (open_state ts leaf) c → get_or leaf.ranks c 0 ≡ n → HasRow at c
  unfolding is_due marked is_marked
  not_due ts e want rank = by_test (eqb (get_or at c 0) 0)
      (λ b. absurd (false≢true (sym e ∙ and_both (eqb (get_or leaf.marks c 0) 0) _ want.1 (and_both (eqb (get_or at c 0) 0) _ b (eq-eqb _ _ rank)))))
      (λ b. some-row (get_or at c 0) (eqb-false _ _ b))
    where
      some-row : (k : ℕ) → ¬ (k ≡ 0) → (r : ℕ) × (k ≡ suc r)
      some-row zero h = absurd (h refl)
      some-row (suc r) h = (r, refl)

-- all d below c, and c: all below suc c
rank-next : (x : OpenState) (at : List ℕ) (n c : ℕ) → RankDrawn x at n c → (Wanted x c → get_or x.ranks c 0 ≡ n → HasRow at c) → RankDrawn x at n (suc c)
rank-next x at n c before here d want rank l =
    by_test (eqb d c)
    (λ b. let e : d ≡ c = eqb-true d c b in
    subst (HasRow at) (sym e) (here (subst (Wanted x) e want) (ap (λ (k : ℕ). get_or x.ranks k 0) (sym e) ∙ rank)))
    (λ b. let ne : ¬ (d ≡ c) = eqb-false d c b in before d want rank (omega arith))

module _ (leaf : Leaf) (at : List ℕ) (rows : List ℤ) (many n c : ℕ) where
  pub passed_over : is_due leaf.marks leaf.ranks at n c ≡ false → Advances leaf at rows many n c at rows many n (suc c)
  passed_over e ts val drawn pic stage = (
    grown-itself rows many,
    record { sheet = stage.sheet; free = stage.free; lower = stage.lower; same = rank-next (open_state ts leaf) at n c stage.same (not_due leaf at n c ts e) },
  )

  -- what drawing a class that is due needs
  module _ (small : c < 78) (staged : Staged leaf at rows many n c) (due : is_due leaf.marks leaf.ranks at n c ≡ true) where
    d : Due leaf at n c
    d = due-is leaf at n c due

    sheet-here : Sheet (open_state staged.types leaf) staged.val rows many staged.drawn at
    sheet-here = staged.stage.sheet

    pub due-few : many < 4096
    due-few = omega (arith, sheet-here.enough.0, sheet-room (open_state staged.types leaf) staged.val rows many staged.drawn at sheet-here c (omega arith) d.none)

    pub due-long : 4 * many + 4 ≤ length rows
    due-long = omega (arith, sheet-here.enough.1, sheet-room (open_state staged.types leaf) staged.val rows many staged.drawn at sheet-here c (omega arith) d.none)

    pub due-low : (e : ℕ) → get_or at e 0 ≤ 4096
    due-low = sheet-low (open_state staged.types leaf) staged.val rows many staged.drawn at sheet-here

  -- a class that is due is drawn
  module _ (small : c < 78) (due : is_due leaf.marks leaf.ranks at n c ≡ true) (rows' : List ℤ) (many' r : ℕ) (drawn-here : FixedDrawn leaf at rows many c rows' many' r) where
    abbrev at' : List ℕ
    at' = set at c (suc r)

    module _ (ts : Types) (val : ℕ → Message) (drawn : List ℕ) (pic : Pictured (open_state ts leaf) val) (stage : Stage (open_state ts leaf) val rows many drawn at n c) where
      abbrev x : OpenState
      x = open_state ts leaf

      dd : Due leaf at n c
      dd = due-is leaf at n c due

      wanted : Wanted (open_state ts leaf) c
      unfolding marked is_marked
      wanted = (small, dd.mark)

      -- a free class has a row already
      not_free : is_free (open_state ts leaf) c ≡ false
      not_free = by_test (is_free x c) (λ b. let (q, e) = stage.free c small b in let z : suc q ≡ 0 = sym e ∙ dd.none in absurd (omega arith)) (λ b. b)

      pub class_drew : Drew ts rows many drawn 1 (val c) rows' many' drawn r
      class_drew = drawn-here ts val drawn pic stage.sheet wanted not_free (subst (λ (k : ℕ). (e : ℕ) → Wanted x e → get_or leaf.ranks e 0 < k → HasRow at e) (sym dd.rank) stage.lower)

      inside : c < length at
      inside = subst (λ (k : ℕ). c < k) (sym stage.sheet.long) (omega arith)

      still : (e : ℕ) → HasRow at e → HasRow (set at c (suc r)) e
      still e (q, h) = (q, noted_kept at c r inside dd.none e q h)

      pub class_noted : Stage (open_state ts leaf) val rows' many' drawn (set at c (suc r)) n (suc c)
      class_noted = record {
        sheet = sheet_noted x val rows many drawn at stage.sheet 1 c wanted dd.none rows' many' drawn r class_drew (omega (arith, stage.sheet.room));
        free = λ e l f. still e (stage.free e l f);
        lower = λ e w l. still e (stage.lower e w l);
        same = rank-next x (set at c (suc r)) n c (λ e w k l. still e (stage.same e w k l)) (λ w k. (r, noted_there at c r inside));
      }

    -- the row fits
    pub row_small : Staged leaf at rows many n c → r ≤ many
    row_small staged =
        let w : Drew staged.types rows many staged.drawn 1 (staged.val c) rows' many' staged.drawn r = class_drew staged.types staged.val staged.drawn staged.pictured staged.stage in
        omega (arith, w.there, w.cost)

pub noted_advances : (leaf : Leaf) (at : List ℕ) (rows : List ℤ) (many n c : ℕ) (at' : List ℕ) (rows' : List ℤ) (many' : ℕ) → c < 78 → is_due leaf.marks leaf.ranks at n c ≡ true → Noted leaf at rows many c at' rows' many'
    → Advances leaf at rows many n c at' rows' many' n (suc c)
noted_advances leaf at rows many n c at' rows' many' small due noted ts val drawn pic stage = (
  (class_drew leaf at rows many n c small due rows' many' noted.row noted.drew ts val drawn pic stage).grown,
  subst (λ (a : List ℕ). Stage (open_state ts leaf) val rows' many' drawn a n (suc c)) (sym noted.is) (class_noted leaf at rows many n c small due rows' many' noted.row noted.drew ts val drawn pic stage),
)

-- ---- one after the other

-- the same by other names
pub advances_as : (leaf : Leaf) (at : List ℕ) (rows : List ℤ) (many n c n' c' : ℕ) (at' at'' : List ℕ) (rows' rows'' : List ℤ) (many' many'' : ℕ) → at'' ≡ at' → rows'' ≡ rows' → many'' ≡ many'
    → Advances leaf at rows many n c at' rows' many' n' c' → Advances leaf at rows many n c at'' rows'' many'' n' c'
advances_as leaf at rows many n c n' c' at' at'' rows' rows'' many' many'' ea er em h =
    subst (λ (a : List ℕ). Advances leaf at rows many n c a rows'' many'' n' c') (sym ea)
    (subst (λ (r : List ℤ). Advances leaf at rows many n c at' r many'' n' c') (sym er) (subst (λ (m : ℕ). Advances leaf at rows many n c at' rows' m n' c') (sym em) h))

module _ (leaf : Leaf) (at : List ℕ) (rows : List ℤ) (many n c : ℕ) where
  pub advances-none : Advances leaf at rows many n c at rows many n c
  advances-none ts val drawn pic stage = (grown-itself rows many, stage)

  module _ (at' : List ℕ) (rows' : List ℤ) (many' n' c' : ℕ) (first : Advances leaf at rows many n c at' rows' many' n' c') where
    pub advances-then : (at'' : List ℕ) (rows'' : List ℤ) (many'' n'' c'' : ℕ) → Advances leaf at' rows' many' n' c' at'' rows'' many'' n'' c'' → Advances leaf at rows many n c at'' rows'' many'' n'' c''
    advances-then at'' rows'' many'' n'' c'' second ts val drawn pic stage =
        let (g, s) = first ts val drawn pic stage in
        let (h, u) = second ts val drawn pic s in
        (grown_twice rows many rows' many' rows'' many'' g h, u)

    pub staged-then : Staged leaf at rows many n c → Staged leaf at' rows' many' n' c'
    staged-then s = record { types = s.types; val = s.val; drawn = s.drawn; pictured = s.pictured; stage = (first s.types s.val s.drawn s.pictured s.stage).1 }

    pub advances-long : Staged leaf at rows many n c → length rows' ≡ length rows
    advances-long s = (first s.types s.val s.drawn s.pictured s.stage).0.long

-- after the last class of a rank
pub next-rank : (leaf : Leaf) (at : List ℕ) (rows : List ℤ) (many n c : ℕ) → 78 ≤ c → Advances leaf at rows many n c at rows many (suc n) 0
next-rank leaf at rows many n c h ts val drawn pic stage = (
  grown-itself rows many,
  record {
    sheet = stage.sheet;
    free = stage.free;
    lower = λ d w l. by_test (ltb (get_or leaf.ranks d 0) n) (λ b. stage.lower d w (ltb-true _ _ b)) (λ b. stage.same d w (omega (arith, l, ltb-false (get_or leaf.ranks d 0) n b)) (omega (arith, h, w.0)));
    same = λ d w e l. absurd (omega arith);
  },
)
