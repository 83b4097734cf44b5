-- Laws of repeats: the symbol inside one, as it stands and as it is written again; built-in texts. Assumes nothing.
use mathlib.Core.Path.{◌≡◌, refl, ap, ◌∙◌, subst}
use mathlib.Core.Bool.{Bool, true}
use mathlib.Core.List.{List, [], ◌∷◌, ◌++◌, append-nil}
use Prim.Native.Nat.{ℕ, zero, suc, ◌+◌, ◌-◌, ◌≤◌, ◌<◌}
use native.Mathlib.Omega.{arith}
use lib.ListN.{length, get_or, length-append}
use Rattle.octets.specs.Plain.Runs.{Lies}
use Rattle.octets.proofs.LiesLaws.{lies_first, lies_split}
use Rattle.parse_tree.specs.Plain.Tree.{Text, Op, Leaf, Sym, ambiguous, bare, quoted, regex, nonterminal, lookahead, lookbehind, error, repeat, choose, name, leaf, around, over, nil, cons}
use Rattle.parse_tree.specs.Plain.WriteTape.{op_code}
use Rattle.parse_tree.specs.Working.Nodes.{span_bytes, symbol_bytes, node_bytes}
use Rattle.parse_tree.specs.Working.Encode.{around_node, sym_bytes}
use Rattle.parse_tree.specs.Working.Within.{SymWithin}
use Rattle.parse_tree.specs.declared.syntax.Span.{Span}
use Rattle.texts.specs.Table.{texts}
use Rattle.passes.specs.Macros.{vec_none, vec_one, pushed, some_text, none_text, v_name, e_name}
use Rattle.passes.specs.Sizes.{sym_fits}
use Rattle.laws.specs.Keys.{built_ins}
use Rattle.display.specs.Standing.{SymStands}
use Rattle.display.proofs.StandsLaws.{one_stands}
use Rattle.precedence.proofs.WriteMean.{span_long}
use Rattle.replacing.specs.Trees.{renamed}
use Rattle.replacing.specs.Slots.{among}
use Rattle.expander.specs.declared.Ground.{Ground}
use Rattle.expander.specs.Replace.{keys_of, keys_of_all, around_keys, around_long}
use Rattle.appending.specs.declared.Appended.{Appended}
use Rattle.appending.specs.Built.{built_text}
use Rattle.appending.specs.Symbols.{Referring}
use Rattle.appending.proofs.SymbolsTrees.{each-parts}
use Rattle.macro_expand.specs.Expand.{Popped}

-- ---- the built-in texts of repeats
pub text_none : built_text 0 ≡ vec_none
unfolding built_text built_ins
text_none = refl

pub text_v : built_text 1 ≡ v_name
unfolding built_text built_ins
text_v = refl

pub text_one : built_text 2 ≡ vec_one
unfolding built_text built_ins
text_one = refl

pub text_push : built_text 3 ≡ pushed
unfolding built_text built_ins
text_push = refl

pub text_e : built_text 4 ≡ e_name
unfolding built_text built_ins
text_e = refl

pub text_some : built_text 5 ≡ some_text
unfolding built_text built_ins
text_some = refl

pub text_nothing : built_text 6 ≡ none_text
unfolding built_text built_ins
text_nothing = refl

-- ---- a symbol within bounds is so when it is written again
leaf_fits : (s : Span) (l : Leaf) (k : ℕ) → sym_fits (renamed (leaf s l)) (suc k) ≡ true
unfolding renamed
leaf_fits s (ambiguous x) k = refl
leaf_fits s (bare x) k = refl
leaf_fits s (quoted x) k = refl
leaf_fits s (regex x) k = refl
leaf_fits s (nonterminal x) k = refl
leaf_fits s lookahead k = refl
leaf_fits s lookbehind k = refl
leaf_fits s error k = refl

module _ (four : Bool) (wd : ℕ) (ts : List Text) where
  pub renamed_fits : (y : Sym) (left k : ℕ) → left ≤ k → SymWithin four wd ts y left → sym_fits (renamed y) k ≡ true
  unfolding renamed
  renamed_fits (leaf s l) zero k i h = absurd h
  renamed_fits (leaf s l) (suc left) zero i h = absurd (omega arith)
  renamed_fits (leaf s l) (suc left) (suc k) i h = leaf_fits s l k
  renamed_fits (around s a x) zero k i h = absurd h
  renamed_fits (around s a x) (suc left) zero i h = absurd (omega arith)
  renamed_fits (around s (repeat o) x) (suc left) (suc k) i h = refl
  renamed_fits (around s choose x) (suc left) (suc k) i h = renamed_fits x left k (omega arith) h.2
  renamed_fits (around s (name m n) x) (suc left) (suc k) i h = renamed_fits x left k (omega arith) h.2
  renamed_fits (over s o xs) zero k i h = absurd h
  renamed_fits (over s o xs) (suc left) zero i h = absurd (omega arith)
  renamed_fits (over s o xs) (suc left) (suc k) i h = refl

  -- one level is left less inside
  inner-within : (s : Span) (o : Op) (x : Sym) (left : ℕ) → SymWithin four wd ts (around s (repeat o) x) left → (0 < left) × SymWithin four wd ts x (left - 1)
  inner-within s o x zero h = absurd h
  inner-within s o x (suc left) h = let z : suc left - 1 ≡ left = omega arith in (omega arith, rw z h.2)

-- ---- a repeat that was taken off the pile
module _ (s w : List ℕ) (g : Ground) (n lim : ℕ) (ps : List ℕ) (four : Bool) (left q e : ℕ) (sp : Span) (o : Op) (x : Sym) (v : Appended) (R : Popped s w g n lim ps four left q e (around sp (repeat o) x) v) where
  abbrev ts : List Text
  ts = texts s w g.m

  abbrev head : List ℕ
  head = 38 ∷ (span_bytes sp ++ (op_code o ∷ []))

  lies_all : Lies w (g.from + q) (head ++ sym_bytes g.width.bytes ts x) (g.from + e)
  unfolding sym_bytes node_bytes symbol_bytes around_node
  lies_all = R.stands.lies

  head_long : length head ≡ 10
  head_long = omega (arith, length-append (span_bytes sp) (op_code o ∷ []), span_long sp)

  parts : Lies w (g.from + q) head (g.from + q + length head) × Lies w (g.from + q + length head) (sym_bytes g.width.bytes ts x) (g.from + e)
  parts = lies_split w (g.from + q) (g.from + e) head (sym_bytes g.width.bytes ts x) lies_all

  -- theorem: its operator
  pub repeat_code : get_or w (g.from + q + 9) 0 ≡ op_code o
  repeat_code =
      let f = lies_first w (g.from + q) 38 (span_bytes sp ++ (op_code o ∷ [])) _ parts.0 in
      let m = lies_split w (g.from + q + 1) _ (span_bytes sp) (op_code o ∷ []) f.2 in
      let c = lies_first w (g.from + q + 1 + length (span_bytes sp)) (op_code o) [] _ m.1 in
      let z : g.from + q + 9 ≡ g.from + q + 1 + length (span_bytes sp) = omega (arith, span_long sp) in
      ap (λ (i : ℕ). get_or w i 0) z ∙ c.1

  pub repeat_within : (0 < left) × SymWithin four g.width.bytes ts x (left - 1)
  repeat_within = inner-within four g.width.bytes ts sp o x left R.stands.within

  pub repeat_inner : SymStands s w g.m g.width.bytes four (left - 1) (g.from + (q + 10)) (g.from + e) x
  repeat_inner =
      let z : g.from + q + length head ≡ g.from + (q + 10) = omega (arith, head_long) in
      record { within = repeat_within.1; lies = subst (λ (a : ℕ). Lies w a (sym_bytes g.width.bytes (texts s w g.m) x) (g.from + e)) z parts.1 }

  -- theorem: the symbol inside stands behind its ten bytes, and has its references
  pub repeat_referring : Referring s w g ps four (left - 1) (q + 10) e (cons x nil)
  unfolding keys_of keys_of_all around_long
  repeat_referring =
      let k = each-parts (λ (p : ℕ). among p ps ≡ true) (keys_of g.width.bytes (texts s w g.m) x (q + 10)) (around_keys (repeat o) q) R.referred in
      let z = append-nil (keys_of g.width.bytes (texts s w g.m) x (q + 10)) in
      record {
        stand = one_stands s w g.m g.width.bytes four (left - 1) (g.from + (q + 10)) (g.from + e) x repeat_inner;
        inside = R.inside;
        levels = omega (arith, R.levels);
        referred = rw z k.0;
      }

  -- theorem: it is nested within bounds, also in two more symbols but one
  pub repeat_fits : (k : ℕ) → 63 ≤ k → sym_fits (renamed x) k ≡ true
  repeat_fits k i = renamed_fits four g.width.bytes ts x (left - 1) k (omega (arith, R.levels)) repeat_within.1
