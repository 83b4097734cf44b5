-- Laws of `replace_next`: a symbol that is expanded. Assumes nothing.
use mathlib.Core.Path.{◌≡◌, refl, sym, ap, ◌∙◌, subst}
use mathlib.Core.Bool.{Bool, true, false, cond, false≢true}
use mathlib.Core.List.{List, map}
use Prim.Native.Nat.{ℕ, ◌+◌, ◌-◌, ◌*◌, ◌<◌, ◌≤◌}
use native.Mathlib.Omega.{arith}
use mir.Syntax.{w8}
use mir.Val as Bound
use borrow.Author.Rules.{rules}
use borrow.Author.Tests.{lt-leb}
use lib.Dec.{leb}
use lib.ListN.{length, get_or}
use Rattle.std.specs.Prelude.{Option as Optional, Some, None}
use Rattle.octets.specs.Plain.Numbers.{Bytes}
use Rattle.octets.specs.Plain.Runs.{Lies}
use Rattle.octets.specs.Working.Choice.{pick}
use Rattle.parse_tree.specs.Plain.Tree.{Text}
use Rattle.parse_tree.specs.Plain.Reading.{got}
use Rattle.parse_tree.specs.Working.Nodes.{node_at}
use Rattle.parse_tree.specs.declared.syntax.Span.{Span}
use Rattle.parse_tree.specs.declared.syntax.SymbolKind.{SymbolKind}
use Rattle.parse_tree.specs.declared.syntax.Node.{Node}
use Rattle.texts.specs.Table.{Above, texts}
use Rattle.texts.proofs.TableStays.{above_stays}
use Rattle.replacing.specs.Runs.{plain_kind, plain, key_bytes, Run, key_by, step_on, steps}
use Rattle.replacing.specs.Slots.{Ref, text, like, Slots, places, among, note_all, ref_at, place_in, number_new, number_by, numbered}
use Rattle.replacing.specs.Sound.{HasRef}
use Rattle.replacing.proofs.Going.{own-last}
use Rattle.expander.specs.declared.Ground.{Ground}
use Rattle.expander.specs.declared.replace.Formed.{Formed}
use Rattle.expander.specs.declared.stage.Replaced.{Replaced}
use Rattle.expander.specs.Ground.{size_in, stage_in, list_place, symbol_in, same_at, text_in, Grounded, Around}
use Rattle.expander.specs.Held.{Held, AllBefore}
use Rattle.expander.specs.Replace.{expanded_code, keys_of, StandsAt, SomeSymbol, NotedAll, ReplacesOne}
use Rattle.expander.specs.Stage.{Walks, Writable, WroteOnly, SomeFormed, PutBy, PutsFormed, SomeTurn, turned, TurnedBy, Turns}
use Rattle.expander.proofs.GroundLaws.{kept-around, stage_around, table-around, grounded_around, key_around}
use Rattle.expander.proofs.HeldStays.{around_wrote, wrote_same, said_wrote, above_wrote}
use Rattle.expander.proofs.KeysLaws.{keys_spread}
use Rattle.expander.proofs.NotedKeys.{notes_before}
use Rattle.expander.proofs.KeysPlaces.{sym_keys}
use Rattle.expander.proofs.StageReads.{bytes_part, stage_length, key_stands, read_room}
use Rattle.expander.proofs.StageCode.{stage_byte, stage_in_lem}
use Rattle.expander.proofs.StageMeets.{room_less, room_key, room_upto, key_no_macro, KeyMeets, meets_key}
use Rattle.expander.proofs.StageTurnCode.{turned_by, writable_next}

-- numbering keeps the references
numbered-keeps : (base p : ℕ) (x : Slots) → (numbered base p x).1.refs ≡ x.refs
unfolding numbered number_by number_new
numbered-keeps base p x = go (ref_at p x.refs)
  where
    go : (r : Ref) → (number_by base r x).1.refs ≡ x.refs
    go (text k) = refl
    go (like q) = by (among q x.news)
      where
        by : (b : Bool) → (cond {A = ℕ × Slots} b (base + place_in q x.news, x) (base + length x.news, number_new q x)).1.refs ≡ x.refs
        by true = refl
        by false = refl

-- the command of a symbol that is expanded
key_node : (n : Optional Node) → plain n ≡ false → (sp : Span) × (k : SymbolKind) × (n ≡ Some (Node.Symbol sp k)) × (plain_kind k ≡ false)
unfolding plain
key_node (Some (Node.Text k)) e = absurd (false≢true (sym e))
key_node (Some (Node.Nonterminal d)) e = absurd (false≢true (sym e))
key_node (Some (Node.Terminal d)) e = absurd (false≢true (sym e))
key_node (Some (Node.Argument a)) e = absurd (false≢true (sym e))
key_node (Some (Node.Alternative a)) e = absurd (false≢true (sym e))
key_node (Some (Node.Attribute a)) e = absurd (false≢true (sym e))
key_node (Some (Node.Condition c)) e = absurd (false≢true (sym e))
key_node (Some (Node.Symbol s k)) e = (s, k, refl, e)
key_node None e = absurd (false≢true (sym e))

-- the list grows by at most one
list_next : (g : Ground) (c d left : ℕ) → d ≤ c + 1 → 1 ≤ left → list_place g (c + left) ≤ g.keys → list_place g (d + (left - 1)) ≤ g.keys
list_next g c d left h k l = omega arith

list_one : (g : Ground) (c left : ℕ) → 1 ≤ left → list_place g (c + left) ≤ g.keys → list_place g c + 8 ≤ g.keys
list_one g c left k l = omega arith

module _ (s w : List ℕ) (g : Ground) (r : Replaced) (G : Grounded s w g) (T : SomeTurn s w g r) (l : r.at < size_in g) (b : (j : ℕ) → Bound.Fits w8 (get_or w j 0)) where
  abbrev t : List ℕ
  t = stage_in w g

  abbrev wd : ℕ
  wd = g.width.bytes

  abbrev ts : List Text
  ts = texts s w g.m

  abbrev W : Writable s w g r.to (size_in g - r.at)
  W = T.writable

  -- the code that was read
  module _ (c : ℕ) (d : c ≡ get_or w (g.from + r.at) 0) (e : Bool) (y : e ≡ expanded_code c) (f : e ≡ true) where
    M : KeyMeets wd t ts T.left r.at
    M =
        meets_key wd t ts T.turns T.left r.at T.walks (stage_in_lem s w g G r.at l)
        (ap expanded_code (stage_byte s w g G r.at l ∙ sym d) ∙ sym y ∙ f)

    abbrev end : ℕ
    end = M.firm.end

    bytes : Bytes w
    bytes j = (b j).fits

    stage_bytes_lem : Bytes t
    unfolding stage_in
    stage_bytes_lem = bytes_part w g.from g.end bytes G.inside

    inside : end ≤ size_in g
    inside = omega (arith, M.inside, stage_length s w g G)

    nine : r.at + 9 ≤ end
    nine = (read_room s w g bytes G 64 r.at (symbol_in s w g r.at) end M.firm.read).0

    stands : StandsAt s w g false 64 r.at end (symbol_in s w g r.at)
    stands = key_stands s w g bytes G r.at M.firm

    pub turn_symbol : SomeSymbol s w g 64 r.at r.pile
    turn_symbol = record {
      four = false;
      end = end;
      symbol = symbol_in s w g r.at;
      levels = omega arith;
      stands = stands;
      inside = inside;
      held = record { few = T.few; new = r.count; slots = T.slots; held = T.held; before = T.before };
    }

    abbrev ps : List ℕ
    ps = keys_of wd ts (symbol_in s w g r.at) r.at

    places-are : places wd t 64 r.at ≡ got ps end
    places-are = sym_keys false wd t ts stage_bytes_lem G.distinct-texts 64 r.at (symbol_in s w g r.at) end M.firm.read

    abbrev noted : Slots → Slots
    noted x = note_all (same_at s w g) (text_in s w g) ps x

    has : (x : Slots) → HasRef r.at (noted x)
    has x =
        let (sp, k, i, j) = key_node (node_at wd t r.at) M.firm.key in
        own-last (same_at s w g) (text_in s w g) wd t 63 r.at ps end x sp k i j places-are

    noted_before : (x : Slots) → AllBefore r.at x → AllBefore end (noted x)
    noted_before x i =
        notes_before (same_at s w g) (text_in s w g) r.at end ps x (omega (arith, nine))
        (keys_spread wd ts (symbol_in s w g r.at) r.at end (omega (arith, stands.lies.end))) i

    -- ---- the symbols inside it were noted
    module _ (k : Formed) (w1 : List ℕ) (R : ReplacesOne s w g 64 r.at r.pile k w1) where
      N : NotedAll s w g r.at r.pile end ps k w1
      unfolding ReplacesOne
      N = (R false end (symbol_in s w g r.at) stands inside).0

      around : Around g w w1
      around = kept-around s w g G w1 N.kept

      pub turn_grounded : Grounded s w1 g
      turn_grounded = grounded_around s w w1 g G around

      above : Above s w1 g.m W.lim
      above = above_stays s w g.m w1 g.m W.lim (table-around s w w1 g G around) W.above

      pub turn_keyed : SomeFormed s w1 g r k
      turn_keyed = record {
        key = key_around s w w1 g G around r.at M.firm;
        inside = omega (arith, nine, inside);
        list = list_one g r.count T.left M.some T.list;
        writable =
            writable_next s w w1 g r.to (size_in g - r.at) r.to 9 W around.long above (omega arith)
            (room_less r.to (size_in g - r.at) 9 W.lim wd G.narrow G.wide W.room (omega (arith, nine, inside)));
        slots = noted T.slots;
        held = N.held r.count T.slots T.held T.before;
        noted = has T.slots;
      }

      -- ---- and the nonterminal was written
      module _ (q : Replaced) (w2 : List ℕ) (P : PutsFormed s w1 g r k q w2) where
        at-is : q.at ≡ end
        at-is = P.at ∙ N.end

        room : 9 * q.to + (9 + wd) * (size_in g - q.at) ≤ 9 * W.lim
        room =
            rw P.to (room_key r.to (size_in g - r.at) (size_in g - q.at) W.lim wd G.narrow G.wide W.room (omega (arith, at-is, nine, inside)))

        low : q.to ≤ W.lim
        low = room_upto q.to ((9 + wd) * (size_in g - q.at)) W.lim room

        later : r.to ≤ q.to
        later = omega (arith, P.to)

        wrote : WroteOnly g r.to q.to w w2
        wrote = wrote_same g r.to q.to w w1 w2 (around_wrote g r.to q.to w w1 W.top later around) P.wrote

        abbrev run : Slots → Run
        run x = record {
          at = end;
          out = key_bytes wd (node_at wd t r.at) (numbered g.m.count r.at (noted x)).0;
          slots = (numbered g.m.count r.at (noted x)).1;
        }

        key_step : (x : Slots) → turned s w g 1 r.at x ≡ run x
        unfolding steps step_on key_by pick
        key_step x =
            let i : leb (length t) r.at ≡ false = lt-leb (length t) r.at (stage_in_lem s w g G r.at l) in
            rw (i, key_no_macro (node_at wd t r.at) M.firm.key, M.firm.key, places-are) refl

        put : (x : Slots) → Held s w g r.pile r.count x → AllBefore r.at x → PutBy s w1 g r (noted x) q w2
        put x h i = P.each (noted x) (N.held r.count x h i) (has x)

        behind : (x : Slots) → AllBefore r.at x → AllBefore q.at (run x).slots
        behind x i p j =
            let z = noted_before x i p (subst (λ (v : List (ℕ × Ref)). among p (map (λ (u : ℕ × Ref). u.0) v) ≡ true) (numbered-keeps g.m.count r.at (noted x)) j) in
            omega (arith, at-is)

        each : (x : Slots) → Held s w g r.pile r.count x → AllBefore r.at x → TurnedBy s w g 1 r x q w2
        each x h i =
            let p = put x h i in
            turned_by s w g 1 r x q w2 (run x) (key_step x) at-is
            (subst (λ (v : List ℕ). Lies w2 r.to (key_bytes wd (node_at wd v r.at) (numbered g.m.count r.at (noted x)).0) q.to) (stage_around s w w1 g G around) p.lies)
            p.held (behind x i)

        pub turn_key : Turns s w g r q w2
        turn_key = record {
          steps = 1;
          few = omega (arith, at-is, nine);
          each = each;
          next = record {
            turns = M.turns;
            left = T.left - 1;
            walks =
                said_wrote s w w2 g r.to q.to W.lim G W.top W.items low W.above wrote (λ st us. Walks wd st us M.turns (T.left - 1) q.at)
                (subst (λ (j : ℕ). Walks wd t ts M.turns (T.left - 1) j) (sym at-is) M.next);
            upto = omega (arith, at-is, inside);
            list = list_next g r.count q.count T.left P.most M.some T.list;
            writable =
                writable_next s w w2 g r.to (size_in g - r.at) q.to (size_in g - q.at) W wrote.long
                (above_wrote s w w2 g r.to q.to W.lim G W.top W.items low W.above wrote) later room;
            few = omega (arith, P.pile, N.most, T.few, at-is);
            slots = (run T.slots).slots;
            held = (put T.slots T.held T.before).held;
            before = behind T.slots T.before;
          };
          on = omega (arith, at-is, nine);
          to = later;
          wrote = wrote;
        }

pub ruleset noting = (rules, turn_symbol, turn_grounded, turn_keyed, turn_key)
