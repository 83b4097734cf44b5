-- What a yes of questions 14 to 16 says: the lowest levels have only `all`. Assumes nothing.
use mathlib.Core.Path.{◌≡◌, refl, sym, ap, ◌∙◌, subst}
use mathlib.Core.List.Memᴰ
use mathlib.Core.List.{List, [], ◌∷◌, Memᴰ}
use mathlib.Core.Bool.{Bool, true, false, cond, true≢false, false≢true}
use mathlib.Core.Option.{none}
use Prim.Native.Nat.{ℕ}
use Rattle.parse_tree.specs.Plain.Tree.{Text, Nonterminal, Item, item}
use Rattle.passes.specs.Outcome.{Tree, yes, no, after}
use Rattle.passes.specs.Grades.{Side, all, non, left, right, annotated, Graded, graded}
use Rattle.passes.specs.Levels.{levels_of, of_level, groups_of, grouped, check_attributes, is_all, all_all, check_lowest, check_nonterminal, check_levels}
use Rattle.meaning.proofs.Basics.{item_inj, item≢terminal}
use Rattle.passes.proofs.Outcomes.{no≢yes, after-yes}
use Rattle.meaning.proofs.Levels.LevelFacts.{Level, is_lowest, not_lowest, levels-have, levels-only, Ascends, levels-ascend, Sided}
use Rattle.meaning.proofs.Levels.LevelItems.{of_level-have}
use Rattle.meaning.proofs.Levels.LevelMeaning.{AllSided}

all_sides : (gs : List Graded) (u : Unit {0}) → all_all gs ≡ yes u → (g : Graded) → Memᴰ g gs → g.side ≡ all
all_sides [] u e g i = absurd (Memᴰ.not-nil i)
all_sides (x ∷ gs) u e g i = go x.side refl e i (λ e' j. all_sides gs u e' g j)
  where
    go : (s : Side) → x.side ≡ s → cond (is_all s) (all_all gs) (no 16 x.alternative.span) ≡ yes u → Memᴰ g (x ∷ gs) → (all_all gs ≡ yes u → Memᴰ g gs → g.side ≡ all) → g.side ≡ all
    go all q z (Memᴰ.head r) k = ap (λ (y : Graded). y.side) r ∙ q
    go all q z (Memᴰ.tail j) k = k z j
    go non q z j k = absurd (no≢yes _ _ _ z)
    go left q z j k = absurd (no≢yes _ _ _ z)
    go right q z j k = absurd (no≢yes _ _ _ z)

-- the first group is the lowest level's
lowest_all : (E : Text) (gs : List Graded) (u : Unit {0}) → check_lowest (grouped E gs) ≡ yes u → (g : Graded) → Memᴰ g gs → is_lowest g.level gs ≡ true → g.side ≡ all
unfolding groups_of
lowest_all E gs u e g i l = go (levels_of gs) (levels-ascend gs) (levels-have gs g.level (g, i, refl)) (λ v j. levels-only gs v j) e
  where
    first : (v : ℕ) (vs : List ℕ) → Ascends (v ∷ vs) → Memᴰ g.level (v ∷ vs) → Level gs v → g.level ≡ v
    first v vs a (Memᴰ.head q) k = q
    first v vs a (Memᴰ.tail j) k = absurd (true≢false (sym l ∙ not_lowest g.level gs v k (a.0 g.level j)))

    go : (vs : List ℕ) → Ascends vs → Memᴰ g.level vs → ((v : ℕ) → Memᴰ v vs → Level gs v) → check_lowest (groups_of E gs none vs) ≡ yes u → g.side ≡ all
    go [] a h k z = absurd (Memᴰ.not-nil h)
    go (v ∷ vs) a h k z = all_sides (of_level v gs) u z g (subst (λ (n : ℕ). Memᴰ g (of_level n gs)) (first v vs a h (k v (Memᴰ.head refl))) (of_level-have gs g i))

nonterminal_ok : (d : Nonterminal) (u : Unit {0}) → check_nonterminal d ≡ yes u → annotated d ≡ true → Sided d
nonterminal_ok d u e an = go (annotated d) an e
  where
    go : (b : Bool) → b ≡ true → cond b (after (check_attributes d.alternatives) (λ v. check_lowest (grouped d.name (graded d)))) (yes tt) ≡ yes u → Sided d
    go true p z = let (v, ev, z1) = after-yes (check_attributes d.alternatives) _ u z in lowest_all d.name (graded d) u z1
    go false p z = absurd (false≢true p)

pub levels-ok : (R : Tree) (u : Unit {0}) → check_levels R ≡ yes u → AllSided R
unfolding check_levels
levels-ok [] u e d i an = absurd (Memᴰ.not-nil i)
levels-ok (item x ∷ rest) u e d (Memᴰ.head p) an =
    let (v, ev, e1) = after-yes (check_nonterminal x) _ u e in
    subst Sided (sym (item_inj d x p)) (nonterminal_ok x v ev (ap annotated (sym (item_inj d x p)) ∙ an))
levels-ok (item x ∷ rest) u e d (Memᴰ.tail j) an = let (v, ev, e1) = after-yes (check_nonterminal x) _ u e in levels-ok rest u e1 d j an
levels-ok (Item.terminal s o t ∷ rest) u e d (Memᴰ.head q) an = absurd (item≢terminal d s o t q)
levels-ok (Item.terminal s o t ∷ rest) u e d (Memᴰ.tail i) an = levels-ok rest u e d i an
