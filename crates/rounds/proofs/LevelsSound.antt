-- Levels keep items sound: a level's name is an identifier and digits, and no other name comes in. Assumes nothing.
use mathlib.Core.Path.{◌≡◌, subst}
use mathlib.Core.Bool.{Bool, true, false, cond}
use mathlib.Core.List.{List, [], ◌∷◌, map, append-nil}
use mathlib.Core.Option.{Option, none, some}
use Prim.Native.Nat.{ℕ, suc, ◌+◌}
use lib.Dec.{eqb}
use Rattle.octets.specs.Plain.Runs.{same_as}
use Rattle.parse_tree.specs.Plain.Tree.{Text, Leaf, Sym, Syms, ambiguous, bare, quoted, regex, nonterminal, lookahead, lookbehind, error, leaf, around, over, nil, cons, Alternative, Nonterminal, Item, item}
use Rattle.parse_tree.specs.Plain.Texts.{is_identifier}
use Rattle.parse_tree.specs.Working.Within.{Each}
use Rattle.parse_tree.specs.declared.syntax.Span.{Span}
use Rattle.parse_tree.proofs.ReadingLaws.{each_append}
use Rattle.passes.specs.Outcome.{Tree}
use Rattle.passes.specs.Grades.{Side, all, non, left, right, value_of, is_given, without_first, precedence, assoc, level_of, side_of, with_levels, Graded, with_sides, graded, annotated, ceiling}
use Rattle.passes.specs.Levels.{decimal, level_name, levels_of, of_level, Group, groups_of, occurs, replace_occurrences, replace_occurrences_in, lower_name, substitute, substituted, fall_through, with_fall_through, level_items, levelled}
use Rattle.laws.specs.Keys.{SoundText, LeafSound, SymSound, SymsSound, AlternativeSound, ItemSound}
use Rattle.laws.proofs.Keys.{level_sound}

-- ---- occurrences of E become texts that are sound
module _ (E : Text) (f : ℕ → Text) (s : (i : ℕ) → SoundText (f i)) where
  leaf_occurs : (l : Leaf) (sp : Span) (i : ℕ) → LeafSound l → SymSound (replace_occurrences E f (leaf sp l) i)
  unfolding replace_occurrences
  leaf_occurs (ambiguous n) sp i h = h
  leaf_occurs (bare n) sp i h = h
  leaf_occurs (quoted t) sp i h = h
  leaf_occurs (regex t) sp i h = h
  leaf_occurs (nonterminal n) sp i h = go (same_as n E)
    where
      go : (b : Bool) → LeafSound (cond b (nonterminal (f i)) (nonterminal n))
      go true = s i
      go false = h
  leaf_occurs lookahead sp i h = h
  leaf_occurs lookbehind sp i h = h
  leaf_occurs error sp i h = h

  mutual
    unfolding replace_occurrences replace_occurrences_in

    symbol_occurs : (x : Sym) (i : ℕ) → SymSound x → SymSound (replace_occurrences E f x i)
    symbol_occurs (leaf sp l) i h = leaf_occurs l sp i h
    symbol_occurs (around sp a x) i h = (h.0, symbol_occurs x i h.1)
    symbol_occurs (over sp o xs) i h = (h.0, symbols_occur xs i h.1)

    symbols_occur : (xs : Syms) (i : ℕ) → SymsSound xs → SymsSound (replace_occurrences_in E f xs i)
    symbols_occur nil i h = tt
    symbols_occur (cons x xs) i h = (symbol_occurs x i h.0, symbols_occur xs (i + occurs E x) h.1)

-- ---- what an occurrence gets
ceiling-sound : (side : Side) (own low : Text) (total j : ℕ) → SoundText own → SoundText low → SoundText (ceiling side own low total j)
ceiling-sound all own low total j a b = a
ceiling-sound non own low total j a b = b
ceiling-sound left own low total j a b = go (eqb j 0)
  where
    go : (t : Bool) → SoundText (cond t own low)
    go true = a
    go false = b
ceiling-sound right own low total j a b = go (eqb (suc j) total)
  where
    go : (t : Bool) → SoundText (cond t own low)
    go true = a
    go false = b

-- ---- alternatives with their levels
abbrev GradedSound : Graded → Type 0
GradedSound g = AlternativeSound g.alternative

sides_sound : (s : Side) (l : ℕ) (as' : List Alternative) → Each AlternativeSound as' → Each GradedSound (with_sides s (with_levels l as'))
sides_sound s l [] h = tt
sides_sound s l (a ∷ rest) h =
    let given = value_of precedence a.attributes in
    let v : Side = side_of (cond (is_given given) all s) (value_of assoc (without_first precedence a.attributes)) in
    (h.0, sides_sound v (level_of l given) rest h.1)

of_level_sound : (v : ℕ) (gs : List Graded) → Each GradedSound gs → Each GradedSound (of_level v gs)
unfolding of_level
of_level_sound v [] h = tt
of_level_sound v (g ∷ rest) h = go (eqb g.level v) (of_level_sound v rest h.1)
  where
    go : (b : Bool) → Each GradedSound (of_level v rest) → Each GradedSound (cond b (g ∷ of_level v rest) (of_level v rest))
    go true i = (h.0, i)
    go false i = i

-- ---- a level
abbrev LowerSound : Option Text → Type 0
LowerSound none = Unit {0}
LowerSound (some n) = SoundText n

lower_sound : (group : Group Graded) → SoundText group.name → LowerSound group.lower → SoundText (lower_name group)
lower_sound group a b = go group.lower b
  where
    go : (o : Option Text) → LowerSound o → SoundText (elim o [ none ↦ group.name | some n ↦ n ])
    go none c = a
    go (some n) c = c

substitute-sound : (E : Text) (group : Group Graded) (gs : List Graded) → SoundText group.name → LowerSound group.lower → Each GradedSound gs → Each AlternativeSound (map (substitute E group) gs)
substitute-sound E group [] a b h = tt
substitute-sound E group (g ∷ gs) a b h = (
  symbols_occur E _ (λ i. ceiling-sound g.side group.name (lower_name group) _ i a (lower_sound group a b)) g.alternative.symbols 0 h.0,
  substitute-sound E group gs a b h.1,
)

fall_sound : (s : Span) (o : Option Text) → LowerSound o → Each AlternativeSound (fall_through s o)
fall_sound s none h = tt
fall_sound s (some n) h = ((h, tt), tt)

group_sound : (d : Nonterminal) (group : Group Graded) → SoundText group.name → LowerSound group.lower → Each GradedSound group.alternatives → ItemSound (with_fall_through d (substituted d.name group))
unfolding substituted with_fall_through
group_sound d group a b h =
    each_append AlternativeSound (map (substitute d.name group) group.alternatives) (fall_through d.span group.lower) (substitute-sound d.name group group.alternatives a b h) (fall_sound d.span group.lower b)

name_sound : (E : Text) (v : ℕ) (vs : List ℕ) → is_identifier E ≡ true → SoundText (level_name E v vs)
name_sound E v [] h = subst SoundText (append-nil E) (level_sound E [] h)
name_sound E v (u ∷ us) h = level_sound E (decimal v) h

groups_sound : (d : Nonterminal) (gs : List Graded) (lower : Option Text) (vs : List ℕ) → is_identifier d.name ≡ true → LowerSound lower → Each GradedSound gs
    → Each ItemSound (map (with_fall_through d) (map (substituted d.name) (groups_of d.name gs lower vs)))
unfolding groups_of
groups_sound d gs lower [] n l h = tt
groups_sound d gs lower (v ∷ vs) n l h =
    let a = name_sound d.name v vs n in
    (group_sound d _ a l (of_level_sound v gs h), groups_sound d gs (some (level_name d.name v vs)) vs n a h)

-- ---- a tree whose nonterminals have identifiers for names
abbrev pub NamedItem : Item → Type 0
NamedItem (item d) = is_identifier d.name ≡ true
NamedItem (Item.terminal s o t) = Unit {0}

-- theorem
pub levelled-sound : (R : Tree) → Each NamedItem R → Each ItemSound R → Each ItemSound (levelled R)
unfolding levelled level_items
levelled-sound [] n h = tt
levelled-sound (item d ∷ rest) n h = each_append ItemSound (cond (annotated d) (level_items d) (item d ∷ [])) (levelled rest) (go (annotated d)) (levelled-sound rest n.1 h.1)
  where
    go : (b : Bool) → Each ItemSound (cond b (level_items d) (item d ∷ []))
    go true = groups_sound d (graded d) none (levels_of (graded d)) n.0 tt (sides_sound all 0 d.alternatives h.0)
    go false = (h.0, tt)
levelled-sound (Item.terminal s o t ∷ rest) n h = (tt, levelled-sound rest n.1 h.1)
