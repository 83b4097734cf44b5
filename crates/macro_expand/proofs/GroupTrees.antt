-- Laws of groups: what stands inside one, and its item. Assumes nothing.
use mathlib.Core.Path.{◌≡◌, refl, ap, ◌∙◌, subst}
use mathlib.Core.Bool.{Bool, true, false, cond}
use mathlib.Core.List.{List, [], ◌∷◌, ◌++◌}
use Prim.Native.Nat.{ℕ, zero, suc, ◌+◌, ◌-◌, ◌≤◌, ◌<◌}
use native.Mathlib.Omega.{arith}
use lib.Dec.{eqb}
use lib.ListN.{length, length-append}
use Rattle.octets.specs.Working.Choice.{pick}
use Rattle.octets.specs.Plain.Numbers.{le_at, le}
use Rattle.octets.specs.Plain.Runs.{Lies}
use Rattle.octets.proofs.LiesLaws.{lies_first, lies_split, le_read}
use Rattle.octets.proofs.NumbersLaws.{length-le}
use Rattle.parse_tree.specs.Plain.Tree.{Text, Leaf, Sym, Syms, ambiguous, bare, quoted, regex, nonterminal, lookahead, lookbehind, error, repeat, choose, name, group, leaf, around, over, nil, cons, count, user}
use Rattle.parse_tree.specs.Working.Nodes.{span_bytes, span_in, symbol_bytes, node_bytes}
use Rattle.parse_tree.specs.Working.Encode.{over_node, sym_bytes, syms_bytes}
use Rattle.parse_tree.specs.Working.Within.{SpanWithin, SymWithin, SymsWithin}
use Rattle.parse_tree.specs.declared.syntax.Span.{Span}
use Rattle.parse_tree.proofs.FieldLaws.{span_read}
use Rattle.texts.specs.Table.{texts}
use Rattle.passes.specs.Macros.{one_chosen, all_chosen, is_named, is_chosen, has_name, chosen, group_action}
use Rattle.passes.specs.Sizes.{syms_fit}
use Rattle.laws.specs.Keys.{built_ins}
use Rattle.precedence.proofs.WriteMean.{span_long}
use Rattle.replacing.specs.Trees.{renamed, renamed_all}
use Rattle.replacing.specs.Slots.{among}
use Rattle.expander.specs.declared.Ground.{Ground}
use Rattle.expander.specs.Ground.{size_in}
use Rattle.expander.specs.Replace.{keys_of, keys_of_all, over_long, StandAt}
use Rattle.appending.specs.declared.Appended.{Appended}
use Rattle.appending.specs.Built.{built_text}
use Rattle.appending.specs.Symbols.{Referring}
use Rattle.appending.proofs.SymbolsTrees.{each-parts}
use Rattle.macro_expand.specs.Expand.{Popped}
use Rattle.macro_expand.specs.Group.{group_text}
use Rattle.macro_expand.proofs.RepeatTrees.{renamed_fits}

-- ---- symbols written again: how many, which have names and which are chosen
pub renamed_count : (xs : Syms) → count (renamed_all xs) ≡ count xs
unfolding renamed_all count
renamed_count nil = refl
renamed_count (cons x xs) = ap suc (renamed_count xs)

leaf_named : (s : Span) (l : Leaf) → is_named (renamed (leaf s l)) ≡ false
unfolding renamed
leaf_named s (ambiguous x) = refl
leaf_named s (bare x) = refl
leaf_named s (quoted x) = refl
leaf_named s (regex x) = refl
leaf_named s (nonterminal x) = refl
leaf_named s lookahead = refl
leaf_named s lookbehind = refl
leaf_named s error = refl

leaf_chosen : (s : Span) (l : Leaf) → is_chosen (renamed (leaf s l)) ≡ false
unfolding renamed
leaf_chosen s (ambiguous x) = refl
leaf_chosen s (bare x) = refl
leaf_chosen s (quoted x) = refl
leaf_chosen s (regex x) = refl
leaf_chosen s (nonterminal x) = refl
leaf_chosen s lookahead = refl
leaf_chosen s lookbehind = refl
leaf_chosen s error = refl

one_named : (y : Sym) → is_named (renamed y) ≡ is_named y
unfolding renamed
one_named (leaf s l) = leaf_named s l
one_named (around s (repeat o) x) = refl
one_named (around s choose x) = refl
one_named (around s (name m n) x) = refl
one_named (over s o xs) = refl

one_is_chosen : (y : Sym) → is_chosen (renamed y) ≡ is_chosen y
unfolding renamed
one_is_chosen (leaf s l) = leaf_chosen s l
one_is_chosen (around s (repeat o) x) = refl
one_is_chosen (around s choose x) = refl
one_is_chosen (around s (name m n) x) = refl
one_is_chosen (over s o xs) = refl

pub renamed_named : (xs : Syms) → has_name (renamed_all xs) ≡ has_name xs
unfolding renamed_all
renamed_named nil = refl
renamed_named (cons x xs) = let a = one_named x in let b = renamed_named xs in rw (a, b) refl

pub renamed_chosen : (xs : Syms) → chosen (renamed_all xs) ≡ chosen xs
unfolding renamed_all
renamed_chosen nil = refl
renamed_chosen (cons x xs) = let a = one_is_chosen x in let b = renamed_chosen xs in rw (a, b) refl

-- ---- the action
text_chosen : built_text 7 ≡ one_chosen
unfolding built_text built_ins
text_chosen = refl

text_all : built_text 8 ≡ all_chosen
unfolding built_text built_ins
text_all = refl

action_of_lem : (c k : ℕ) → cond (eqb (cond (eqb c 0) k c) 1) (user one_chosen) (user all_chosen) ≡ user (built_text (group_text c k))
unfolding group_text pick
action_of_lem c k = go (eqb c 0) refl (eqb k 1) refl (eqb c 1) refl
  where
    go : (a : Bool) → eqb c 0 ≡ a → (b : Bool) → eqb k 1 ≡ b → (d : Bool) → eqb c 1 ≡ d → cond (eqb (cond (eqb c 0) k c) 1) (user one_chosen) (user all_chosen) ≡ user (built_text (group_text c k))
    go true x true y d z = cc (text_chosen)
    go true x false y d z = cc (text_all)
    go false x b y true z = cc (text_chosen)
    go false x b y false z = cc (text_all)

pub group_action_lem : (xs : Syms) → group_action (renamed_all xs) ≡ user (built_text (group_text (chosen xs) (count xs)))
group_action_lem xs = rw (renamed_chosen xs, renamed_count xs) (action_of_lem (chosen xs) (count xs))

-- ---- within bounds
pub all_fit : (four : Bool) (wd : ℕ) (ts : List Text) (xs : Syms) (left k : ℕ) → left ≤ k → SymsWithin four wd ts xs left → syms_fit (renamed_all xs) k ≡ true
unfolding renamed_all
all_fit four wd ts nil left k i h = refl
all_fit four wd ts (cons x xs) left k i h = let a = renamed_fits four wd ts x left k i h.0 in let b = all_fit four wd ts xs left k i h.1 in rw (a, b) refl

-- ---- a group that was taken off the pile
module _ (s w : List ℕ) (g : Ground) (n lim : ℕ) (ps : List ℕ) (four : Bool) (left q e : ℕ) (sp : Span) (xs : Syms) (v : Appended) (R : Popped s w g n lim ps four left q e (over sp group xs) v) where
  abbrev ts : List Text
  ts = texts s w g.m

  abbrev head : List ℕ
  head = 41 ∷ (span_bytes sp ++ le 2 (count xs))

  lies_all : Lies w (g.from + q) (head ++ syms_bytes g.width.bytes ts xs) (g.from + e)
  unfolding sym_bytes node_bytes symbol_bytes over_node
  lies_all = R.stands.lies

  head_long : length head ≡ 11
  head_long = omega (arith, length-append (span_bytes sp) (le 2 (count xs)), span_long sp, length-le 2 (count xs))

  parts : Lies w (g.from + q) head (g.from + q + length head) × Lies w (g.from + q + length head) (syms_bytes g.width.bytes ts xs) (g.from + e)
  parts = lies_split w (g.from + q) (g.from + e) head (syms_bytes g.width.bytes ts xs) lies_all

  inner : SpanWithin sp × (count xs < 65536) × SymsWithin four g.width.bytes ts xs (left - 1)
  inner = go left R.stands.within
    where
      go : (k : ℕ) → SymWithin four g.width.bytes ts (over sp group xs) k → SpanWithin sp × (count xs < 65536) × SymsWithin four g.width.bytes ts xs (k - 1)
      go zero h = absurd h
      go (suc k) h = let z : suc k - 1 ≡ k = omega arith in (h.0, h.1, rw z h.2)

  -- theorem: how many symbols it has
  pub group_many : le_at 2 w (g.from + q + 9) ≡ count xs
  group_many =
      let f = lies_first w (g.from + q) 41 (span_bytes sp ++ le 2 (count xs)) _ parts.0 in
      let m = lies_split w (g.from + q + 1) _ (span_bytes sp) (le 2 (count xs)) f.2 in
      let z : g.from + q + 9 ≡ g.from + q + 1 + length (span_bytes sp) = omega (arith, span_long sp) in
      ap (le_at 2 w) z ∙ le_read 2 w (g.from + q + 1 + length (span_bytes sp)) (count xs) _ inner.1 m.1

  pub group_few : count xs < 65536
  group_few = inner.1

  -- theorem: its span
  pub group_span : span_in w (g.from + q + 1) ≡ sp
  group_span =
      let f = lies_first w (g.from + q) 41 (span_bytes sp ++ le 2 (count xs)) _ parts.0 in
      (span_read w _ (g.from + q + 1) (g.from + q + 9) (omega arith) inner.0 f.2).0

  pub group_stand : StandAt s w g four (left - 1) (q + 11) e xs
  group_stand =
      let z : g.from + q + length head ≡ g.from + (q + 11) = omega (arith, head_long) in
      record { within = inner.2; lies = subst (λ (a : ℕ). Lies w a (syms_bytes g.width.bytes (texts s w g.m) xs) (g.from + e)) z parts.1 }

  -- theorem: its symbols stand behind its eleven bytes, and have their references
  pub group_referring : Referring s w g ps four (left - 1) (q + 11) e xs
  unfolding keys_of over_long
  group_referring = record {
    stand = group_stand;
    inside = R.inside;
    levels = omega (arith, R.levels);
    referred = (each-parts (λ (p : ℕ). among p ps ≡ true) (keys_of_all g.width.bytes (texts s w g.m) xs (q + 11)) (q ∷ []) R.referred).0;
  }

  pub group_fits : syms_fit (renamed_all xs) 64 ≡ true
  group_fits = all_fit four g.width.bytes ts xs (left - 1) 64 (omega (arith, R.levels)) inner.2

  pub group_room : g.from + q + 11 ≤ g.end
  unfolding size_in
  group_room = omega (arith, parts.1.end, head_long, R.inside, R.going.ground.ordered)
