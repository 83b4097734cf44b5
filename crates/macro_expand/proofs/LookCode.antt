-- Laws of `expand_lookaround_symbol`: the items of `@L` and `@R`. Assumes nothing.
use mathlib.Core.Path.{◌≡◌, refl, sym, ap, ◌∙◌, subst}
use mathlib.Core.Bool.{Bool, true}
use mathlib.Core.List.{List, [], ◌∷◌, ◌++◌, append-nil}
use Prim.Native.Nat.{ℕ, ◌+◌, ◌%◌, ◌≤◌, ◌<◌}
use native.Mathlib.Omega.{arith}
use mir.Syntax.{w8}
use mir.Val as Bound
use borrow.Author.Rules.{rules}
use borrow.Author.Tests.{eq-eqb, ne_eqb}
use lib.Dec.{eqb}
use lib.ListN.{length, get_or}
use Rattle.octets.specs.Working.Choice.{pick}
use Rattle.octets.specs.Plain.Numbers.{le_at, le, Bytes}
use Rattle.octets.proofs.LiesLaws.{lies_first}
use Rattle.octets.proofs.NumbersLaws.{low_bytes}
use Rattle.parse_tree.specs.Plain.Tree.{Text, lookahead, lookbehind, leaf, nil, count, item, lookahead_action, lookbehind_action}
use Rattle.parse_tree.specs.Plain.Texts.{number, with_new}
use Rattle.parse_tree.specs.Plain.References.{action_texts, syms_texts}
use Rattle.parse_tree.specs.Plain.Display.{print}
use Rattle.parse_tree.specs.Working.Nodes.{span_bytes, leaf_code, symbol_bytes, node_bytes}
use Rattle.parse_tree.specs.Working.Encode.{leaf_node, action_text, sym_bytes, syms_bytes, item_bytes}
use Rattle.parse_tree.specs.declared.syntax.Span.{Span}
use Rattle.passes.specs.Views.{Look, ahead, behind}
use Rattle.passes.specs.Macros.{looking, symbol_of, expand_lookaround_symbol}
use Rattle.precedence.specs.Write.{Puts, alternative_head}
use Rattle.expander.specs.declared.Ground.{Ground}
use Rattle.expander.specs.declared.slots.Numbered.{Numbered}
use Rattle.expander.specs.Ground.{Grounded}
use Rattle.expander.specs.Names.{named_in, SomeNamed, NameRoom, NamesOne}
use Rattle.appending.specs.declared.Appended.{Appended}
use Rattle.appending.specs.Commands.{item_head}
use Rattle.appending.specs.Pieces.{item_piece}
use Rattle.appending.proofs.PiecesLaws.{appends_is}
use Rattle.macro_expand.specs.declared.look.Called.{Called}
use Rattle.macro_expand.specs.Expand.{head_bytes, Popped, SomePopped, IsLook, look_act, act_of, CalledLook, CallsLook, ExpandsLook}
use Rattle.macro_expand.proofs.PoppedLaws.{popped_room, popped_named, popped_names_room, popped_span}
use Rattle.macro_expand.proofs.ItemPieces.{item_head_lem, alternative_head_lem, told, appends_told}
use Rattle.macro_expand.proofs.ItemTrees.{one_bytes, one_texts}
use Rattle.macro_expand.proofs.BeginCode.{name_appended, name_number}

-- ---- act
module _ (w : List ℕ) (at : ℕ) where
  pub act_ahead : get_or w at 0 ≡ 42 → 3 ≡ look_act w at
  unfolding look_act pick
  act_ahead e = cc (eq-eqb (get_or w at 0) 42 e)

  pub act_behind : (get_or w at 0 ≡ 42 → ⊥) → 4 ≡ look_act w at
  unfolding look_act pick
  act_behind e = cc (ne_eqb (get_or w at 0) 42 e)

pub ruleset acting = (rules, act_ahead, act_behind)

-- ---- every one that was taken off the pile
module _ (s w : List ℕ) (g : Ground) (n lim q : ℕ) (v : Appended) (ps : List ℕ) (four : Bool) (left e : ℕ) (sp : Span) where
  act_is : (k : Look) → Popped s w g n lim ps four left q e (symbol_of (looking sp k)) v → look_act w (g.from + q) ≡ act_of k
  unfolding look_act pick sym_bytes node_bytes symbol_bytes leaf_node leaf_code
  act_is ahead R = let z = (lies_first w (g.from + q) 42 _ (g.from + e) R.stands.lies).1 in cc (eq-eqb (get_or w (g.from + q) 0) 42 z)
  act_is behind R = let z = (lies_first w (g.from + q) 43 _ (g.from + e) R.stands.lies).1 in ap (λ (c : ℕ). pick (eqb c 42) 3 4) z

  called : (k : Look) (R : Popped s w g n lim ps four left q e (symbol_of (looking sp k)) v) → Bytes w → (x : Numbered) (w1 : List ℕ) → NamesOne s w g n v.count q x w1
      → CalledLook s w g n lim ps v sp k (record { span = le_at 8 w (g.from + q + 1); act = look_act w (g.from + q); name = x }) w1
  called k R b x w1 N = record {
    span = span_is k R;
    act = act_is k R;
    name = name_number s w g n lim q v ps four left e (symbol_of (looking sp k)) R x w1 N;
    appended = name_appended s w g n lim q v ps four left e (symbol_of (looking sp k)) R x w1 N;
  }
    where
      span_is : (k : Look) → Popped s w g n lim ps four left q e (symbol_of (looking sp k)) v → le 8 (le_at 8 w (g.from + q + 1)) ≡ span_bytes sp
      span_is ahead R = popped_span s w g n lim ps four left q e (leaf sp lookahead) v R b
      span_is behind R = popped_span s w g n lim ps four left q e (leaf sp lookbehind) v R b

-- ---- name_look
module _ (s w : List ℕ) (g : Ground) (n lim q : ℕ) (v : Appended) (K : SomePopped IsLook s w g n lim q v) where
  room : g.from + q + 9 ≤ length w
  room = omega (arith, popped_room s w g n lim K.places K.four K.left q K.end K.symbol v K.popped, K.popped.going.ground.inside)

  pub call_ground : Grounded s w g
  call_ground = K.popped.going.ground

  pub call_span : g.from + q + 1 + 8 ≤ length w
  call_span = omega (arith, room)

  pub call_here : g.from + q < length w
  call_here = omega (arith, room)

  pub call_named : SomeNamed s w g n v.count q
  call_named = popped_named s w g n lim K.places K.four K.left q K.end K.symbol v K.popped

  pub call_room : NameRoom w g v.count q
  call_room = popped_names_room s w g n lim K.places K.four K.left q K.end K.symbol v K.popped

  pub call_done : (x : Numbered) (w1 : List ℕ) → NamesOne s w g n v.count q x w1 → ((j : ℕ) → Bound.Fits w8 (get_or w j 0)) → (z : ℕ) → z ≡ le_at 8 w (g.from + q + 1) → (a : ℕ) → a ≡ look_act w (g.from + q)
      → CallsLook s w g n lim q v (record { span = z; act = a; name = x }) w1
  call_done x w1 N b z d a f =
      subst (λ (u : ℕ). CallsLook s w g n lim q v (record { span = u; act = a; name = x }) w1) (sym d)
      (subst (λ (u : ℕ). CallsLook s w g n lim q v (record { span = le_at 8 w (g.from + q + 1); act = u; name = x }) w1) (sym f)
      (record {
        narrow = K.popped.going.ground.narrow;
        wide = K.popped.going.ground.wide;
        inside = (name_appended s w g n lim q v K.places K.four K.left K.end K.symbol K.popped x w1 N).going.inside;
        each = λ ps four left e sp k R. called s w g n lim q v ps four left e sp k R (λ j. (b j).fits) x w1 N;
      }))

pub ruleset calling = (rules, call_ground, call_span, call_here, call_named, call_room, call_done)

-- ---- the item
module _ (wd : ℕ) (ts : List Text) (sp : Span) (key : Text) where
  look_bytes : (k : Look) → item_bytes wd ts (item (expand_lookaround_symbol sp key k)) ≡ head_bytes wd sp (number ts key) 1 1 (act_of k) 0 0
  unfolding action_text syms_bytes count
  look_bytes ahead = one_bytes wd ts sp key true lookahead_action nil ∙ append-nil (head_bytes wd sp (number ts key) 1 1 3 0 0)
  look_bytes behind = one_bytes wd ts sp key true lookbehind_action nil ∙ append-nil (head_bytes wd sp (number ts key) 1 1 4 0 0)

  look_piece : (k : Look) → ((item_piece wd (item (expand_lookaround_symbol sp key k))).texts ≡ key ∷ []) × ((item_piece wd (item (expand_lookaround_symbol sp key k))).fits ≡ true)
  unfolding action_texts syms_texts count
  look_piece ahead = (one_texts sp key true lookahead_action nil, refl)
  look_piece behind = (one_texts sp key true lookbehind_action nil, refl)

module _ (s w : List ℕ) (g : Ground) (n lim q : ℕ) (v : Appended) (x : Called) (w1 : List ℕ) (C : CallsLook s w g n lim q v x w1) (k1 r : ℕ) (w2 : List ℕ)
    (P : Puts w1 lim v.to (item_head g.width.bytes x.span k1 1 1 ++ alternative_head g.width.bytes x.span x.act 0 0) r w2) (d : k1 ≡ x.name.number % 4294967296) where
  pub look_done : ExpandsLook s w g n lim q v (record { to = r; count = x.name.count; deep = v.deep }) w2
  unfolding ExpandsLook head_bytes
  look_done ps four left e sp k R =
      let c = C.each ps four left e sp k R in
      let key = print (symbol_of (looking sp k)) in
      let T = named_in s w1 g x.name.count in
      let f : List Text → List ℕ = λ ts. head_bytes g.width.bytes sp (number ts (print (symbol_of (looking sp k)))) 1 1 (act_of k) 0 0 in
      let i : le g.width.bytes k1 ≡ le g.width.bytes (number (named_in s w1 g x.name.count) (print (symbol_of (looking sp k)))) =
      ap (le g.width.bytes) d ∙ low_bytes g.width.bytes x.name.number C.narrow C.wide ∙ ap (le g.width.bytes) c.name in
      let j : item_head g.width.bytes x.span k1 1 1 ++ alternative_head g.width.bytes x.span x.act 0 0 ≡ head_bytes g.width.bytes sp (number (named_in s w1 g x.name.count) (print (symbol_of (looking sp k)))) 1 1 (act_of k) 0 0 =
      rw (
        item_head_lem g.width.bytes x.span sp c.span (number (named_in s w1 g x.name.count) (print (symbol_of (looking sp k)))) k1 1 1 i,
        alternative_head_lem g.width.bytes x.span sp c.span 0 0 x.act 0 refl,
        c.act,
      ) refl in
      let a = appends_told s g n lim ps w v (key ∷ []) f (record { to = v.to; count = x.name.count; deep = v.deep }) w1 r w2 R.going c.appended (subst (λ (xs : List ℕ). Puts w1 lim v.to xs r w2) j P) in
      let p = look_piece g.width.bytes (named_in s w2 g x.name.count) sp key k in
      appends_is s g n lim ps w v (told (key ∷ []) f) _ w2 a (item_piece g.width.bytes (item (expand_lookaround_symbol sp key k))) (ap (with_new (named_in s w g v.count)) p.0) (look_bytes g.width.bytes (named_in s w2 g x.name.count) sp key k) p.1

pub ruleset looking_done = (rules, look_done)
