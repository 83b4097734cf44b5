-- Laws of `replace_next`: commands that are copied, and the definition of a macro. Assumes nothing.
use mathlib.Core.Path.{◌≡◌, refl, sym, ap, ◌∙◌, subst}
use mathlib.Core.Bool.{Bool, true, false}
use mathlib.Core.List.{List, []}
use Prim.Native.Nat.{ℕ, ◌+◌, ◌-◌, ◌*◌, ◌<◌, ◌≤◌}
use native.Mathlib.Omega.{arith}
use mir.Syntax.{w64}
use mir.Val.{Fits}
use borrow.Author.Rules.{rules}
use borrow.Author.Tests.{lt-leb}
use lib.Dec.{leb}
use lib.ListN.{length, get_or}
use Rattle.octets.specs.Working.Choice.{pick}
use Rattle.octets.specs.Working.Stores.{store}
use Rattle.octets.specs.Plain.Runs.{part, Lies}
use Rattle.octets.proofs.PartLaws.{part_length}
use Rattle.octets.proofs.LiesLaws.{lies_none, lies_part, part_lies}
use Rattle.parse_tree.specs.Working.Nodes.{code_size, node_at, size_read}
use Rattle.texts.specs.Table.{Above, texts}
use Rattle.replacing.specs.Runs.{hops, Run, skip_step, step_on, steps}
use Rattle.replacing.specs.Slots.{Slots}
use Rattle.expander.specs.declared.Ground.{Ground}
use Rattle.expander.specs.declared.stage.Replaced.{Replaced}
use Rattle.expander.specs.Ground.{size_in, stage_in, top_of, list_place, Grounded}
use Rattle.expander.specs.Held.{Held, AllBefore}
use Rattle.expander.specs.Replace.{expanded_code}
use Rattle.expander.specs.Stage.{macro_at, WholeAt, Walks, SomeHops, Skips, Writable, WroteOnly, SomeWalk, Copies, SomeTurn, turned, TurnedBy, Turns}
use Rattle.expander.proofs.GroundLaws.{list_keys, keys_slots, slots_top}
use Rattle.expander.proofs.HeldStays.{Between, between-wrote, held_stays, said_wrote, above_wrote}
use Rattle.expander.proofs.KnownCodes.{whole_long}
use Rattle.expander.proofs.StageReads.{stage_length, lies_whole}
use Rattle.expander.proofs.StageCode.{stage_room, stage_byte, stage_in_lem}
use Rattle.expander.proofs.StageKeyCode.{stored_between, stored_lies}
use Rattle.expander.proofs.StageRunCode.{copies_one, copies_then}
use Rattle.expander.proofs.StageMeets.{room_less, room_copy, room_upto, macro_stage, MacroMeets, meets_whole, meets_macro}

-- a turn that is known
pub turned_by : (s w : List ℕ) (g : Ground) (n : ℕ) (r : Replaced) (x : Slots) (q : Replaced) (w' : List ℕ) (R : Run) → turned s w g n r.at x ≡ R → q.at ≡ R.at → Lies w' r.to R.out q.to
    → Held s w' g q.pile q.count R.slots → AllBefore q.at R.slots → TurnedBy s w g n r x q w'
turned_by s w g n r x q w' R e a l h b = record {
  at = a ∙ sym (ap (λ (v : Run). v.at) e);
  lies = subst (λ (v : Run). Lies w' r.to v.out q.to) (sym e) l;
  held = subst (λ (v : Run). Held s w' g q.pile q.count v.slots) (sym e) h;
  before = subst (λ (v : Run). AllBefore q.at v.slots) (sym e) b;
}

-- room for the next turn
pub writable_next : (s w w' : List ℕ) (g : Ground) (to n to' n' : ℕ) (W : Writable s w g to n) → length w' ≡ length w → Above s w' g.m W.lim → to ≤ to' → 9 * to' + (9 + g.width.bytes) * n' ≤ 9 * W.lim
    → Writable s w' g to' n'
writable_next s w w' g to n to' n' W e a l h = record { lim = W.lim; top = omega (arith, W.top); items = omega (arith, W.items); room = h; inside = rw e W.inside; above = a }

list_top : (s w : List ℕ) (g : Ground) → Grounded s w g → list_place g 0 ≤ top_of g
list_top s w g G = omega (arith, list_keys s w g G, keys_slots s w g G, slots_top s w g G)

module _ (s w : List ℕ) (g : Ground) (r : Replaced) (G : Grounded s w g) (T : SomeTurn s w g r) (l : r.at < size_in g) where
  pub turn_room : g.from + r.at < length w
  turn_room = stage_room s w g G r.at l

  abbrev t : List ℕ
  t = stage_in w g

  abbrev wd : ℕ
  wd = g.width.bytes

  -- the code that was read
  module _ (c : ℕ) (d : c ≡ get_or w (g.from + r.at) 0) (e : Bool) (y : e ≡ expanded_code c) (f : e ≡ false) where
    code_is : get_or t r.at 0 ≡ c
    code_is = stage_byte s w g G r.at l ∙ sym d

    unexpanded : expanded_code (get_or t r.at 0) ≡ false
    unexpanded = ap expanded_code code_is ∙ sym y ∙ f

    whole : WholeAt wd t r.at
    whole = meets_whole wd t (texts s w g.m) T.turns T.left r.at T.walks (stage_in_lem s w g G r.at l) unexpanded

    long_is : code_size wd c ≡ size_read wd (node_at wd t r.at)
    long_is = ap (code_size wd) (sym code_is) ∙ sym (whole_long wd t r.at whole)

    inside : r.at + code_size wd c ≤ size_in g
    inside = omega (arith, whole.inside, long_is, stage_length s w g G)

    pub turn_macro_room : g.from + r.at + code_size wd c ≤ length w
    unfolding size_in
    turn_macro_room = omega (arith, inside, G.inside, G.ordered)

    module _ (n : ℕ) (k : n ≡ code_size wd c) (b : Bool) (z : b ≡ macro_at wd w (g.from + r.at) c) where
      size_is : n ≡ size_read wd (node_at wd t r.at)
      size_is = k ∙ long_is

      macro_is : macro_at wd t r.at (get_or t r.at 0) ≡ b
      macro_is = ap (macro_at wd t r.at) code_is ∙ sym (macro_stage s w g G r.at c inside) ∙ sym z

      upto : r.at + n ≤ size_in g
      upto = omega (arith, inside)

      -- ---- the definition of a macro
      module _ (v : b ≡ true) where
        M : MacroMeets wd t (texts s w g.m) T.left r.at
        M = meets_macro wd t (texts s w g.m) T.turns T.left r.at T.walks (stage_in_lem s w g G r.at l) unexpanded (macro_is ∙ v)

        pub turn_hops : SomeHops w g (r.at + n)
        turn_hops = rw size_is (record { many = M.many; hopping = M.hopping; inside = rw (← size_is) upto })

        module _ (q : ℕ) (h : Skips w g (r.at + n) q) where
          next_is : q ≡ hops wd t (length t) (r.at + size_read wd (node_at wd t r.at))
          next_is = h.is ∙ ap (λ (i : ℕ). hops wd t (length t) (r.at + i)) size_is

          skip_step_lem : (x : Slots) → turned s w g 1 r.at x ≡ record { at = hops wd t (length t) (r.at + size_read wd (node_at wd t r.at)); out = []; slots = x }
          unfolding steps step_on skip_step pick
          skip_step_lem x = let i : leb (length t) r.at ≡ false = lt-leb (length t) r.at (stage_in_lem s w g G r.at l) in rw (i, M.macro) refl

          ahead : r.at < q
          ahead = omega (arith, h.from, size_is, M.whole.some)

          later : (x : Slots) → AllBefore r.at x → AllBefore q x
          later x i p j = omega (arith, i p j, ahead)

          pub turn_skip : Turns s w g r (record { at = q; to = r.to; pile = r.pile; count = r.count }) w
          turn_skip = record {
            steps = 1;
            few = omega (arith, ahead);
            each = λ x i j. turned_by s w g 1 r x (record { at = q; to = r.to; pile = r.pile; count = r.count }) w _ (skip_step_lem x) next_is (lies_none w r.to) i (later x j);
            next = record {
              turns = M.turns;
              left = T.left;
              walks = rw next_is M.next;
              upto = h.upto;
              list = T.list;
              writable =
                  writable_next s w w g r.to (size_in g - r.at) r.to (size_in g - q) T.writable refl T.writable.above (omega arith)
                  (room_less r.to (size_in g - r.at) (size_in g - q) T.writable.lim wd G.narrow G.wide T.writable.room (omega (arith, ahead)));
              few = omega (arith, T.few, ahead);
              slots = T.slots;
              held = T.held;
              before = later T.slots T.before;
            };
            on = ahead;
            to = omega arith;
            wrote = record { long = refl; others = λ i j. refl };
          }

      -- ---- a command that is copied
      pub turn_first : b ≡ false → Copies s w g r.at (r.at + n)
      turn_first v = subst (λ (j : ℕ). Copies s w g r.at (r.at + j)) (sym size_is) (copies_one s w g G r.at l unexpanded (macro_is ∙ v) T.turns T.left T.walks)

pub ruleset turning = (rules, turn_room, turn_macro_room, turn_skip, turn_first)

-- ---- `copy_run`
module _ (s w : List ℕ) (g : Ground) (r : Replaced) (n : ℕ) (G : Grounded s w g) (T : SomeTurn s w g r) (F : Copies s w g r.at (r.at + n)) (some : 0 < n) where
  pub copy_walk : SomeWalk s w g (r.at + n)
  copy_walk = let z = F.walks T.turns T.left T.walks in record { turns = z.0; left = T.left; walks = z.1; upto = F.upto }

  module _ (stop : ℕ) (K : Copies s w g (r.at + n) stop) where
    A : Copies s w g r.at stop
    A = copies_then s w g G r.at (r.at + n) stop F K

    forth : r.at < stop
    forth = omega (arith, K.few, some)

    W : Writable s w g r.to (size_in g - r.at)
    W = T.writable

    room : 9 * (r.to + (stop - r.at)) + (9 + g.width.bytes) * (size_in g - stop) ≤ 9 * W.lim
    room = room_copy r.to (size_in g - r.at) (size_in g - stop) W.lim g.width.bytes (stop - r.at) G.narrow G.wide W.room (omega (arith, forth, K.upto))

    low : r.to + (stop - r.at) ≤ W.lim
    low = room_upto (r.to + (stop - r.at)) ((9 + g.width.bytes) * (size_in g - stop)) W.lim room

    pub copy_before : g.from + stop ≤ r.to
    unfolding size_in
    copy_before = omega (arith, K.upto, W.items, G.ordered)

    pub copy_room : r.to + (g.from + stop - (g.from + r.at)) ≤ length w
    copy_room = omega (arith, low, forth, W.inside)

    pub copy_to_fits : Fits w64 (r.to + (stop - r.at))
    copy_to_fits = record { fits = omega (arith, low, W.inside, G.short) }

    module _ (w2 : List ℕ) (o : w2 ≡ store w r.to (part (g.from + r.at) (g.from + stop) w)) where
      abbrev bytes : List ℕ
      bytes = part (g.from + r.at) (g.from + stop) w

      bytes_are : bytes ≡ part r.at stop (stage_in w g)
      unfolding stage_in
      bytes_are =
          let p = part_lies (stage_in w g) r.at stop (omega (arith, forth)) (omega (arith, K.upto, stage_length s w g G)) in
          lies_part w (g.from + r.at) (g.from + stop) (part r.at stop (stage_in w g))
          (lies_whole w g.from g.end G.ordered G.inside r.at (part r.at stop (stage_in w g)) stop p)

      bytes_long : length bytes ≡ stop - r.at
      bytes_long =
          let i = part_length (g.from + r.at) (g.from + stop) w (omega (arith, copy_before, low, W.inside)) in
          omega arith

      between : Between r.to (r.to + (stop - r.at)) w w2
      between = stored_between w w2 r.to (stop - r.at) bytes o bytes_long

      wrote : WroteOnly g r.to (r.to + (stop - r.at)) w w2
      wrote = between-wrote g r.to (r.to + (stop - r.at)) w w2 W.top between (list_top s w g G)

      stays : (x : Slots) → Held s w g r.pile r.count x → Held s w2 g r.pile r.count x
      stays x h = held_stays s w w2 g r.to (r.to + (stop - r.at)) W.lim G W.top W.items low W.above between r.pile r.count x h

      further : (x : Slots) → AllBefore r.at x → AllBefore stop x
      further x i p j = omega (arith, i p j, forth)

      onward : (m : ℕ) × Walks g.width.bytes (stage_in w g) (texts s w g.m) m T.left stop
      onward = A.walks T.turns T.left T.walks

      pub turn_copy : Turns s w g r (record { at = stop; to = r.to + (stop - r.at); pile = r.pile; count = r.count }) w2
      turn_copy = record {
        steps = A.turns;
        few = A.few;
        each = λ x i j.
            turned_by s w g A.turns r x (record { at = stop; to = r.to + (stop - r.at); pile = r.pile; count = r.count }) w2 _ (A.is [] x) refl
            (subst (λ (u : List ℕ). Lies w2 r.to u (r.to + (stop - r.at))) bytes_are (stored_lies w w2 r.to (stop - r.at) bytes o bytes_long (omega (arith, low, W.inside)))) (stays x i)
            (further x j);
        next = record {
          turns = onward.0;
          left = T.left;
          walks =
              said_wrote s w w2 g r.to (r.to + (stop - r.at)) W.lim G W.top W.items low W.above wrote (λ st ts. Walks g.width.bytes st ts onward.0 T.left stop)
              onward.1;
          upto = A.upto;
          list = T.list;
          writable =
              writable_next s w w2 g r.to (size_in g - r.at) (r.to + (stop - r.at)) (size_in g - stop) W wrote.long
              (above_wrote s w w2 g r.to (r.to + (stop - r.at)) W.lim G W.top W.items low W.above wrote) (omega arith) room;
          few = omega (arith, T.few, forth);
          slots = T.slots;
          held = stays T.slots T.held;
          before = further T.slots T.before;
        };
        on = forth;
        to = omega arith;
        wrote = wrote;
      }

pub ruleset copying = (rules, copy_walk, copy_before, copy_room, copy_to_fits, turn_copy)
