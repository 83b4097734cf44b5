-- Laws of the command of an item that is appended for a call, and what a call frames. Assumes nothing.
use mathlib.Core.Path.{◌≡◌, refl, sym, ap, ◌∙◌, subst}
use mathlib.Core.Bool.{Bool, true}
use mathlib.Core.Logic.{◌⊎◌, inl, inr}
use mathlib.Core.List.{List, [], ◌∷◌, ◌++◌}
use Prim.Native.Nat.{ℕ, ◌+◌, ◌-◌, ◌%◌, ◌≤◌}
use native.Mathlib.Omega.{arith}
use borrow.Author.Rules.{rules}
use lib.ListN.{length, get_or, length-append}
use Rattle.octets.specs.Plain.Numbers.{le}
use Rattle.octets.specs.Plain.Runs.{Lies}
use Rattle.octets.proofs.LiesLaws.{lies_split, lies_first, lies_from}
use Rattle.octets.proofs.NumbersLaws.{length-le, low_bytes}
use Rattle.parse_tree.specs.Plain.Tree.{Text, Sym, Syms, macro, over, Nonterminal, item}
use Rattle.parse_tree.specs.Plain.Texts.{number, with_new}
use Rattle.parse_tree.specs.Plain.Display.{print}
use Rattle.parse_tree.specs.Plain.WriteTape.{bytes_of_each, bit}
use Rattle.parse_tree.specs.Working.Nodes.{span_bytes, node_bytes, symbol_bytes, size_of, long_of}
use Rattle.parse_tree.specs.Working.Encode.{over_node, argument_bytes, alternative_bytes, nonterminal_node, item_bytes}
use Rattle.parse_tree.specs.Working.Within.{Each}
use Rattle.parse_tree.specs.declared.syntax.Span.{Span}
use Rattle.parse_tree.proofs.SizeLaws.{length_span}
use Rattle.texts.specs.Table.{texts}
use Rattle.laws.specs.Flat.{sym_node, children}
use Rattle.octets.specs.Working.Choice.{pick}
use Rattle.resolve.proofs.GrammarLaws.{named, Headed, headed}
use Rattle.precedence.specs.Write.{Puts}
use Rattle.grades.proofs.AlternativesMean.{first_means}
use Rattle.display.proofs.StandsLaws.{Standing, standing}
use Rattle.replacing.specs.Slots.{among}
use Rattle.expander.specs.declared.Ground.{Ground}
use Rattle.expander.specs.declared.slots.Numbered.{Numbered}
use Rattle.expander.specs.Ground.{size_in, top_of, list_place, printed_at, Grounded}
use Rattle.expander.specs.Names.{named_in, SomeNamed, NameRoom, NamesOne}
use Rattle.expander.specs.Replace.{over_long, keys_of, keys_of_all}
use Rattle.expander.proofs.KeysLaws.{own_keys, keys_parts, stands_print}
use Rattle.appending.specs.declared.Appended.{Appended}
use Rattle.appending.specs.Commands.{item_head}
use Rattle.appending.specs.Pieces.{naming, plainly, then_piece, Appends}
use Rattle.appending.proofs.PiecesLaws.{steady_naming, appends_then, appends_is, appends_puts, appends_gives}
use Rattle.appending.proofs.BuiltLaws.{number-gives}
use Rattle.appending.proofs.BuiltRoom.{names_room}
use Rattle.appending.proofs.SymbolsTrees.{each-parts}
use Rattle.macro_expand.specs.declared.call.MacroCall.{MacroCall}
use Rattle.macro_expand.specs.Expand.{Popped}
use Rattle.macro_expand.specs.Call.{Calls, SomeCall}
use Rattle.macro_expand.specs.PutIn.{Placed, Framed}
use Rattle.macro_expand.specs.Macro.{ReadsCall, macro_piece, PutsHead}
use Rattle.macro_expand.proofs.PoppedLaws.{expands_key}

-- ---- what is pushed has a reference of its own
own-here : (wd : ℕ) (ts : List Text) (P : ℕ → Type 0) (sp : Span) (t : Text) (xs : Syms) (q : ℕ) → Each P (keys_of wd ts (over sp (macro t) xs) q) → Each P (keys_of_all wd ts xs (q + (10 + wd))) × P q
unfolding keys_of over_long
own-here wd ts P sp t xs q h = let (a, b) = each-parts P (keys_of_all wd ts xs (q + (10 + wd))) (q ∷ []) h in (a, b.0)

call_long : (wd : ℕ) (ts : List Text) (sp : Span) (t : Text) (xs : Syms) → size_of wd (sym_node ts (over sp (macro t) xs)) ≡ 10 + wd
unfolding size_of sym_node over_node node_bytes symbol_bytes
call_long wd ts sp t xs = simp (length-append, length_span, length-le) (omega arith)

key_here : (s w : List ℕ) (g : Ground) (n lim q : ℕ) (v : Appended) (ps : List ℕ) (four : Bool) (left e : ℕ) (y : Sym) → Popped s w g n lim ps four left q e y v → among q ps ≡ true
unfolding own_keys pick
key_here s w g n lim q v ps four left e y O =
    let ks = keys_of_all g.width.bytes (texts s w g.m) (children y) (q + size_of g.width.bytes (sym_node (texts s w g.m) y)) in
    let z = keys_parts g.width.bytes (texts s w g.m) y q ∙ ap (λ (b : Bool). keys_of_all g.width.bytes (texts s w g.m) (children y) (q + size_of g.width.bytes (sym_node (texts s w g.m) y)) ++ own_keys b q) (expands_key y O.expands) in
    (each-parts (λ (p : ℕ). among p ps ≡ true) ks (q ∷ []) (subst (Each (λ (p : ℕ). among p ps ≡ true)) z O.referred)).1.0

-- ---- put_head
module _ (s w : List ℕ) (g : Ground) (n lim q d : ℕ) (v : Appended) (K : SomeCall s w g n lim q d v) where
  abbrev P0 : Popped s w g n lim K.places K.four K.left q K.end (over K.span (macro K.name) K.arguments) v
  P0 = K.calls.popped

  here : among q K.places ≡ true
  here = (own-here g.width.bytes (texts s w g.m) (λ (p : ℕ). among p K.places ≡ true) K.span K.name K.arguments q P0.referred).1

  pub head_ground : Grounded s w g
  head_ground = P0.going.ground

  pub head_named : SomeNamed s w g n v.count q
  head_named = record { places = K.places; names = P0.going.names; here = here }

  pub head_room : NameRoom w g v.count q
  head_room = names_room s w g n v.count K.places P0.going.names P0.going.built q here

  module _ (x : Numbered) (w1 : List ℕ) (N : NamesOne s w g n v.count q x w1) (k : ℕ) (i : k ≡ x.number % 4294967296) (span flags m r : ℕ) (w2 : List ℕ)
      (U : Puts w1 lim v.to (item_head g.width.bytes span k flags m) r w2) where
    put : (ps : List ℕ) (four : Bool) (left e : ℕ) (y : Sym) → Popped s w g n lim ps four left q e y v → among q ps ≡ true
        → Appends s g n lim ps w v (macro_piece g.width.bytes span (print y) flags m) (record { to = r; count = x.count; deep = v.deep }) w2
    unfolding NamesOne item_head with_new
    put ps four left e y O h =
        let G = O.going.ground in
        let bytes = item_head g.width.bytes span k flags m in
        let by = N ps O.going.names h in
        let gives = number-gives s w g n v.count q ps x w1 G O.going.names O.going.built h by in
        let is : printed_at s w g q ≡ print y = stands_print s w g G four left q e y O.stands O.inside O.levels in
        let v1 : Appended = record { to = v.to; count = x.count; deep = v.deep } in
        let v2 : Appended = record { to = r; count = x.count; deep = v.deep } in
        let first = appends_gives s g n lim ps w v (printed_at s w g q) x w1 O.going gives in
        let second = appends_puts s g n lim ps w1 (record { to = v.to; count = x.count; deep = v.deep }) (item_head g.width.bytes span k flags m) r w2 first.going U in
        let both = appends_then s g n lim ps w v (naming (printed_at s w g q)) (record { to = v.to; count = x.count; deep = v.deep }) w1 (plainly (item_head g.width.bytes span k flags m)) (record { to = r; count = x.count; deep = v.deep }) w2 (steady_naming (printed_at s w g q)) O.going first second in
        let same : named_in s w2 g x.count ≡ named_in s w1 g x.count = second.texts-are in
        let numbered : x.number ≡ number (named_in s w2 g x.count) (print y) = gives.is ∙ ap (number (named_in s w1 g x.count)) is ∙ ap (λ (ts : List Text). number ts (print y)) (sym same) in
        let low : le g.width.bytes (number (named_in s w2 g x.count) (print y)) ≡ le g.width.bytes k = ap (le g.width.bytes) (sym numbered) ∙ sym (ap (le g.width.bytes) i ∙ low_bytes g.width.bytes x.number G.narrow G.wide) in
        appends_is s g n lim ps w v (then_piece (naming (printed_at s w g q)) (plainly (item_head g.width.bytes span k flags m))) (record { to = r; count = x.count; deep = v.deep }) w2 both
        (macro_piece g.width.bytes span (print y) flags m)
        (ap (λ (t : Text). with_new (named_in s w g v.count) (t ∷ [])) (sym is))
        (ap (λ (l : List ℕ). 16 ∷ (le 8 span ++ (l ++ (flags ∷ (0 ∷ le 2 m))))) low) refl

    pub head_put : PutsHead s w g n lim q span flags m v (record { to = r; count = x.count; deep = v.deep }) w2
    unfolding PutsHead
    head_put ps four left e y O = put ps four left e y O (key_here s w g n lim q v ps four left e y O)

pub ruleset heading = (rules, head_ground, head_named, head_room, head_put)

-- ---- every call that stands there
placed_within : (w : List ℕ) (g : Ground) (v : Appended) (a e : ℕ) (xs : List ℕ) (b f : ℕ) (ys : List ℕ) → Placed w g v a e xs → a ≤ b → f ≤ e → Lies w b ys f → Placed w g v b f ys
placed_within w g v a e xs b f ys h i j l = record { lies = l; off = go h.off; before = omega (arith, h.before); behind = omega (arith, h.behind) }
  where
    go : (e ≤ list_place g 0) ⊎ ((top_of g ≤ a) × (e ≤ v.to)) → (f ≤ list_place g 0) ⊎ ((top_of g ≤ b) × (f ≤ v.to))
    go (inl z) = inl (omega arith)
    go (inr z) = inr (omega (arith, z.0), omega (arith, z.1))

module _ (s w : List ℕ) (g : Ground) (n lim q d : ℕ) (v : Appended) (ps : List ℕ) (four : Bool) (left e : ℕ) (sp : Span) (t : Text) (xs : Syms) (four' : Bool) (end : ℕ) (D : Nonterminal)
    (C : Calls s w g n lim q d v ps four left e sp t xs four' end D) where
  abbrev ts : List Text
  ts = texts s w g.m

  abbrev wd : ℕ
  wd = g.width.bytes

  H : Headed w wd ts d D end
  H = headed four' w wd ts d D end C.defines.within C.defines.placed.lies

  S : Standing s w g.m wd four left (g.from + q) (g.from + e) (over sp (macro t) xs)
  S = standing s w g.m wd four left (g.from + q) (g.from + e) (over sp (macro t) xs) C.popped.stands

  pub call_head : d + 13 + wd ≤ end
  call_head = omega (arith, H.arguments.end, H.alternatives.end)

  long_is : long_of wd (get_or w (g.from + q) 0) ≡ 10 + wd
  long_is = S.reads.long ∙ call_long wd ts sp t xs

  pub call_inside : q + 9 ≤ size_in g
  unfolding children
  call_inside = omega (arith, long_is, S.inside.lies.end, C.popped.inside)

  pub call_flags : get_or w (d + 9 + wd) 0 ≡ bit D.inline + (bit D.public + bit D.public)
  unfolding item_bytes node_bytes nonterminal_node
  call_flags =
      let fs : ℕ = bit D.inline + (bit D.public + bit D.public) in
      let ys : List ℕ = (bit D.inline + (bit D.public + bit D.public)) ∷ length D.args ∷ le 2 (length D.alternatives) in
      let nb : List ℕ = 16 ∷ (span_bytes D.span ++ (le wd (number ts D.name) ++ ((bit D.inline + (bit D.public + bit D.public)) ∷ length D.args ∷ le 2 (length D.alternatives)))) in
      let b = lies_split w d end nb (bytes_of_each (argument_bytes wd ts) D.args ++ bytes_of_each (alternative_bytes wd ts) D.alternatives) C.defines.placed.lies in
      let a = named w wd d 16 D.span (number ts D.name) ys (d + length nb) C.defines.within.span C.defines.within.name.1 b.0 in
      (lies_first w (d + 9 + wd) fs (length D.args ∷ le 2 (length D.alternatives)) (d + length nb) a.rest).1

  module _ (r : MacroCall) (R : ReadsCall w g q d r) where
    pub call_framed : Framed s w g n lim r.call v ps D.args xs
    unfolding children
    call_framed = record {
      going = C.popped.going;
      four = four;
      left = left - 1;
      from = q + (10 + wd);
      end = e;
      at = R.args ∙ omega arith;
      referring = record {
        stand = record {
          within = S.inside.within;
          lies = lies_from place S.inside.lies;
        };
        inside = C.popped.inside;
        levels = omega (arith, C.popped.levels);
        referred = (own-here wd ts (λ (p : ℕ). among p ps ≡ true) sp t xs q C.popped.referred).0;
      };
      four' = four';
      upto = d + 13 + wd + length (bytes_of_each (argument_bytes wd ts) D.args);
      uses = C.defines.within.args;
      parameters = subst (λ (i : ℕ). Placed w g v i (d + 13 + wd + length (bytes_of_each (argument_bytes wd ts) D.args)) (bytes_of_each (argument_bytes wd ts) D.args)) (sym R.params)
          (placed_within w g v d end (item_bytes wd ts (item D)) (d + 13 + wd) (d + 13 + wd + length (bytes_of_each (argument_bytes wd ts) D.args)) (bytes_of_each (argument_bytes wd ts) D.args) C.defines.placed (omega arith) (omega (arith, H.alternatives.end)) H.arguments);
      named = R.many ∙ H.args;
      called = sym C.many ∙ sym H.args ∙ sym R.many;
      definition = omega (arith, R.end);
    }
      where
        place : g.from + q + long_of wd (get_or w (g.from + q) 0) ≡ g.from + (q + (10 + wd))
        place = omega (arith, long_is)

    pub call_many : length D.alternatives ≡ r.many
    call_many = sym H.many ∙ sym R.alternatives

    pub call_placed : Placed w g v r.from end (bytes_of_each (alternative_bytes wd ts) D.alternatives)
    call_placed =
        subst (λ (i : ℕ). Placed w g v i end (bytes_of_each (alternative_bytes wd ts) D.alternatives)) (sym (R.first ∙ first_means four' wd ts w d end D H))
        (placed_within w g v d end (item_bytes wd ts (item D)) (d + 13 + wd + length (bytes_of_each (argument_bytes wd ts) D.args)) end (bytes_of_each (alternative_bytes wd ts) D.alternatives) C.defines.placed (omega arith) (omega arith) H.alternatives)

    pub call_upto : end ≤ r.call.end
    call_upto = omega (arith, R.end, C.defines.placed.behind)
