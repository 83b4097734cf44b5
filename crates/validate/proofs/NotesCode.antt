-- The loop of `items`: what was read so far and where its places are noted, and what is to come. Assumes nothing.
use mathlib.Core.Path.{◌≡◌, refl, sym, ap, ◌∙◌}
use mathlib.Core.Bool.{Bool, true, false}
use mathlib.Core.Logic.{inl}
use mathlib.Core.List.{List, [], ◌∷◌, ◌++◌, append-nil, append_assoc}
use Prim.Native.Nat.{ℕ, zero, suc, ◌+◌, ◌-◌, ◌*◌, ◌%◌, ◌^◌, ◌<◌, ◌≤◌}
use native.Mathlib.Omega.{arith}
use borrow.Author.Rules.{rules}
use borrow.Author.Tests.{le-leb, lt-leb, ltb-true, ltb-false}
use lib.Dec.{ltb}
use lib.ListN.{length, get_or, take, length-append}
use lib.Seq.{take-append-le, take-append_seam}
use mir.Syntax.{w8, w64}
use mir.Val.{Fits}
use Rattle.octets.specs.Plain.Numbers.{le_at, le}
use Rattle.octets.specs.Working.Stores.{store}
use Rattle.octets.proofs.LiesLaws.{lies_inside}
use Rattle.octets.proofs.NumbersLaws.{length-le}
use Rattle.octets.proofs.StoreLaws.{length_store, le_at-same, le_at-other}
use Rattle.parse_tree.specs.Plain.Tree.{Text, Item, item, terminal}
use Rattle.parse_tree.specs.Plain.Texts.{number}
use Rattle.parse_tree.specs.Plain.Reading.{Reading, got, refused, then}
use Rattle.parse_tree.specs.Plain.WriteTape.{bytes_of_each}
use Rattle.parse_tree.specs.Working.Nodes.{node_bytes, size_of}
use Rattle.parse_tree.specs.Working.Decode.{read_item, read_items}
use Rattle.parse_tree.specs.Working.Encode.{argument_bytes, alternative_bytes, item_bytes, nonterminal_node, source_code}
use Rattle.parse_tree.specs.declared.syntax.TerminalData.{TerminalData}
use Rattle.parse_tree.specs.declared.syntax.Node.{Node}
use Rattle.parse_tree.specs.declared.refusal.Refusal.{Refusal}
use Rattle.parse_tree.proofs.ItemFound.{item_finds}
use Rattle.parse_tree.proofs.ReadingLaws.{bytes_more}
use Rattle.parse_tree.proofs.SizeLaws.{nonterminal_size, terminal_size}
use Rattle.texts.specs.Atoms.{atoms_of}
use Rattle.texts.specs.Fields.{class_at}
use Rattle.texts.specs.Table.{Above, Stays}
use Rattle.texts.proofs.TableStays.{stays_below, above_stays}
use Rattle.validate.specs.Steps.{step_of, Listing, Lists}
use Rattle.validate.specs.declared.Atoms.{Atoms}
use Rattle.std.specs.Prelude.{Result, Ok, Err}
use Rattle.validate.proofs.CommandCode.{step-got, step-refused, then_is, refuses_then}

-- ---- the table stays where what is written ends before it
module _ (s w w1 : List ℕ) (m : Atoms) (at to : ℕ) (vs : List ℕ) (g : Listing s w m at) (o : w1 ≡ store w to vs) (h : to + length vs ≤ m.texts.base) where
  unchanged : Stays s w m.texts w1 m.texts
  unchanged =
      let r : m.texts.base ≤ length w = omega (arith, g.ready.ready.table.room) in
      stays_below s w w1 m.texts (length w) to vs g.ready.ready.table g.above o (omega arith) h

  listing_stays : Listing s w1 m at
  unfolding class_at
  listing_stays =
      let t = unchanged in
      let l : length w1 ≡ length w = ap length o ∙ length_store w to vs in
      let a : Above s w1 m.texts (length w) = above_stays s w m.texts w1 m.texts (length w) t g.above in
      record {
        ready = record {
          ready = record {
            table = t.table;
            same = t.same ∙ g.ready.ready.same;
            classes = λ i k. ap (λ (n : ℕ). n % 4) (t.marks i k) ∙ g.ready.ready.classes i k;
            blank = λ i k. t.cells i k ∙ g.ready.ready.blank i k;
          };
          apart = g.ready.apart;
          inside = g.ready.inside;
        };
        above = rw l a;
        base = g.base;
      }

-- ---- an item has 11 bytes or more
pub item_long : (w : ℕ) (ts : List Text) (i : Item) → 2 ≤ w → 11 ≤ length (item_bytes w ts i)
unfolding item_bytes size_of nonterminal_node
item_long w ts (item d) h =
    let z : 13 + w ≡ length (node_bytes w (nonterminal_node ts d)) = nonterminal_size w (nonterminal_node ts d) _ refl in
    omega (arith, length-append (node_bytes w (nonterminal_node ts d)) (bytes_of_each (argument_bytes w ts) d.args ++ bytes_of_each (alternative_bytes w ts) d.alternatives))
item_long w ts (terminal s o x) h =
    let d : TerminalData = record { span = s; name = record { 0 = number ts x }; source = source_code o } in
    let z : 9 + w ≡ length (node_bytes w (Node.Terminal (record { span = s; name = record { 0 = number ts x }; source = source_code o }))) = terminal_size w (Node.Terminal d) d refl in
    omega arith

-- ---- k items were read before p, and the place of each is noted
pub record Left (s : List ℕ) (m : Atoms) (at : ℕ) (w₀ w : List ℕ) (p k : ℕ) : Type 0 where
  pub same : length w ≡ length w₀
  pub done : List Item
  pub fuel : ℕ
  pub enough : length s ≤ p + fuel
  pub rest : read_items m.four m.width.bytes s (atoms_of s m.texts.count) (length s) at ≡ then (read_items m.four m.width.bytes s (atoms_of s m.texts.count) fuel p) (λ ys d. got (done ++ ys) d)
  pub inside : p ≤ length s
  pub tabled : Listing s w m at
  pub many : k ≡ length done
  pub here : p ≡ at + length (bytes_of_each (item_bytes m.width.bytes (atoms_of s m.texts.count)) done)
  pub few : at + 11 * k ≤ p
  pub noted : (i : ℕ) → i < k → le_at 8 w (48 + 8 * i) ≡ length (bytes_of_each (item_bytes m.width.bytes (atoms_of s m.texts.count)) (take i done))

then-all : (r : Reading (List Item)) → r ≡ then r (λ ys d. got ([] ++ ys) d)
unfolding then
then-all (got ys d) = refl
then-all (refused k p) = refl

then-behind : (x : Item) (xs : List Item) (r : Reading (List Item)) → then (then r (λ ys d. got (x ∷ ys) d)) (λ ys d. got (xs ++ ys) d) ≡ then r (λ ys d. got ((xs ++ (x ∷ [])) ++ ys) d)
unfolding then
then-behind x xs (got ys d) = ap (λ (l : List Item). got l d) (sym (append_assoc xs (x ∷ []) ys))
then-behind x xs (refused k p) = refl

pub items_start : (s w : List ℕ) (m : Atoms) (at : ℕ) → Listing s w m at → Left s m at w w at 0
unfolding bytes_of_each
items_start s w m at g = record {
  same = refl;
  done = [];
  fuel = length s;
  enough = omega arith;
  rest = then-all _;
  inside = g.ready.inside;
  tabled = g;
  many = refl;
  here = omega arith;
  few = omega arith;
  noted = λ i h. absurd (omega arith);
}

module _ (s : List ℕ) (m : Atoms) (at : ℕ) (w₀ w : List ℕ) (p k : ℕ) (inv : Left s m at w₀ w p k) where
  abbrev ts : List Text
  ts = atoms_of s m.texts.count

  abbrev bytes : List Item → List ℕ
  bytes = bytes_of_each (item_bytes m.width.bytes ts)

  read_none : (n : ℕ) → length s ≤ p → read_items m.four m.width.bytes s ts n p ≡ got [] p
  unfolding read_items
  read_none zero h = refl
  read_none (suc n) h = cc (le-leb (length s) p h)

  pub items_none : length s ≤ p → Lists s m at (Ok k) w
  unfolding Lists
  items_none h = record {
    items = inv.done;
    end = p;
    tabled = inv.tabled;
    read = inv.rest ∙ then_is (read_items m.four m.width.bytes s ts inv.fuel p) _ [] p (read_none inv.fuel h) ∙ ap (λ (l : List Item). got l p) (append-nil inv.done);
    many = inv.many;
    noted = inv.noted;
  }

  pub items_behind : at ≤ p
  items_behind = omega (arith, inv.few)

  -- r is the step over the next item
  module _ (h : p < length s) (r : Result ℕ Refusal) (i : r ≡ step_of (read_item m.four m.width.bytes s (atoms_of s m.texts.count) p)) where
    opened : read_items m.four m.width.bytes s ts inv.fuel p ≡ then (read_item m.four m.width.bytes s ts p) (λ y e. then (read_items m.four m.width.bytes s ts (inv.fuel - 1) e) (λ ys d. got (y ∷ ys) d))
    unfolding read_items
    opened = go inv.fuel inv.enough
      where
        go : (n : ℕ) → length s ≤ p + n → read_items m.four m.width.bytes s ts n p ≡ then (read_item m.four m.width.bytes s ts p) (λ y e. then (read_items m.four m.width.bytes s ts (n - 1) e) (λ ys d. got (y ∷ ys) d))
        go zero z = absurd (omega arith)
        go (suc n) z = let q : suc n - 1 ≡ n = omega arith in rw q (cc (lt-leb (length s) p h))

    pub items_stop : (z : Refusal) → r ≡ Err z → Lists s m at (Err z) w
    unfolding Lists
    items_stop z u =
        let a = refuses_then (read_item m.four m.width.bytes s ts p) (λ y e. then (read_items m.four m.width.bytes s ts (inv.fuel - 1) e) (λ ys d. got (y ∷ ys) d)) z (step-refused (read_item m.four m.width.bytes s ts p) z (sym u ∙ i)) in
        let b = refuses_then (read_items m.four m.width.bytes s ts inv.fuel p) (λ ys d. got (inv.done ++ ys) d) z (record { is = opened ∙ a.is; twice = a.twice }) in
        record { is = inv.rest ∙ b.is; twice = b.twice }

    module _ (b : (j : ℕ) → Fits w8 (get_or s j 0)) (e : ℕ) (u : r ≡ Ok e) where
      -- the item that was read
      pub record Turn : Type 0 where
        pub next : Item
        pub is : read_item m.four m.width.bytes s ts p ≡ got next e
        pub end : e ≡ p + length (item_bytes m.width.bytes ts next)
        pub long : 11 ≤ length (item_bytes m.width.bytes ts next)
        pub inside : e ≤ length s

      turn : Turn
      turn =
          let y = step-got (read_item m.four m.width.bytes s ts p) e (sym u ∙ i) in
          let f = item_finds m.four m.width.bytes s ts (λ j. (b j).fits) inv.tabled.ready.apart p y.value e y.is in
          let l = item_long m.width.bytes ts y.value m.width.narrow in
          record { next = y.value; is = y.is; end = f.lies.end; long = l; inside = lies_inside s p e (item_bytes m.width.bytes ts y.value) (omega arith) f.lies }

      below : 48 + 8 * k + 8 ≤ m.texts.base
      below = omega (arith, inv.few, turn.end, turn.long, turn.inside, inv.tabled.base)

      pub note_room : 48 + 8 * k + 8 ≤ length w
      note_room = omega (arith, below, inv.tabled.ready.ready.table.room)

      pub count_fits : length s < 2 ^ 64 → Fits w64 (k + 1)
      count_fits l = record { fits = omega (arith, inv.few, turn.end, turn.long, turn.inside) }

      pub items_less : length s - e < length s - p
      items_less = omega (arith, turn.end, turn.long, turn.inside)

      onward : read_items m.four m.width.bytes s ts (length s) at ≡ then (read_items m.four m.width.bytes s ts (inv.fuel - 1) e) (λ ys d. got ((inv.done ++ (turn.next ∷ [])) ++ ys) d)
      onward =
          inv.rest
          ∙ ap (λ (x : Reading (List Item)). then x (λ ys d. got (inv.done ++ ys) d)) (opened ∙ then_is (read_item m.four m.width.bytes s ts p) _ turn.next e turn.is)
          ∙ then-behind turn.next inv.done (read_items m.four m.width.bytes s ts (inv.fuel - 1) e)

      -- the place is noted
      module _ (v : ℕ) (q : v ≡ p - at) (w1 : List ℕ) (o : w1 ≡ store w (48 + 8 * k) (le 8 v)) where
        noted_now : length s < 2 ^ 64 → (j : ℕ) → j < k + 1 → le_at 8 w1 (48 + 8 * j) ≡ length (bytes (take j (inv.done ++ (turn.next ∷ []))))
        noted_now l j z = go (ltb j k) refl
          where
            go : (t : Bool) → ltb j k ≡ t → le_at 8 w1 (48 + 8 * j) ≡ length (bytes (take j (inv.done ++ (turn.next ∷ []))))
            go true y =
                let g = ltb-true j k y in
                ap (λ (x : List ℕ). le_at 8 x (48 + 8 * j)) o ∙ le_at-other 8 w (48 + 8 * k) (le 8 v) (48 + 8 * j) (inl (omega arith)) ∙ inv.noted j g
                ∙ ap (λ (x : List Item). length (bytes x)) (sym (take-append-le j inv.done (turn.next ∷ []) (omega (arith, inv.many))))
            go false y =
                let g : j ≡ length inv.done = omega (arith, ltb-false j k y, inv.many) in
                let n : 48 + 8 * j ≡ 48 + 8 * k = omega (arith, inv.many) in
                let f : v ≡ length (bytes inv.done) = omega (arith, inv.here) in
                ap (λ (x : ℕ). le_at 8 w1 x) n ∙ ap (λ (x : List ℕ). le_at 8 x (48 + 8 * k)) o ∙ le_at-same 8 w (48 + 8 * k) v note_room (omega (arith, inv.inside)) ∙ f
                ∙ ap (λ (x : List Item). length (bytes x)) (sym (ap (λ (x : ℕ). take x (inv.done ++ (turn.next ∷ []))) g ∙ take-append_seam inv.done (turn.next ∷ [])))

        pub items_next : length s < 2 ^ 64 → Left s m at w₀ w1 e (k + 1)
        items_next l = record {
          same = ap length o ∙ length_store w (48 + 8 * k) (le 8 v) ∙ inv.same;
          done = inv.done ++ (turn.next ∷ []);
          fuel = inv.fuel - 1;
          enough = omega (arith, inv.enough, turn.end, turn.long);
          rest = onward;
          inside = turn.inside;
          tabled = listing_stays s w w1 m at (48 + 8 * k) (le 8 v) inv.tabled o (omega (arith, below, length-le 8 v));
          many = ap (λ (n : ℕ). n + 1) inv.many ∙ sym (length-append inv.done (turn.next ∷ []));
          here = omega (arith, inv.here, turn.end, ap length (bytes_more (item_bytes m.width.bytes ts) inv.done turn.next), length-append (bytes inv.done) (item_bytes m.width.bytes ts turn.next));
          few = omega (arith, inv.few, turn.end, turn.long);
          noted = noted_now l;
        }

pub ruleset listing = (rules, items_start, items_none, items_behind, items_stop, note_room, count_fits, items_less, items_next)
