-- The ways out of list_item, and what they ask. Assumes nothing.
use mathlib.Core.Path.{◌≡◌, refl, sym, ap, ◌∙◌}
use mathlib.Core.List.{List, [], ◌∷◌, ◌++◌, append_assoc}
use Prim.Native.Nat.{ℕ, ◌+◌, ◌*◌, ◌^◌, ◌<◌, ◌≤◌}
use native.Mathlib.Omega.{arith}
use borrow.Author.Rules.{rules}
use lib.ListN.{length, get_or}
use mir.Syntax.{w64}
use mir.Val.{Fits}
use Rattle.octets.specs.Plain.Numbers.{le_at}
use Rattle.parse_tree.specs.Plain.Tree.{Text, Nonterminal, Item, item, terminal}
use Rattle.parse_tree.specs.Plain.WriteTape.{bytes_of_each}
use Rattle.parse_tree.specs.Working.Encode.{alternative_bytes, item_bytes}
use Rattle.parse_tree.specs.Working.Nodes.{nonterminal_here}
use Rattle.parse_tree.specs.declared.syntax.NonterminalData.{NonterminalData}
use Rattle.texts.specs.declared.Map.{Map}
use Rattle.texts.specs.Table.{texts}
use Rattle.grades.specs.Annotations.{first_alternative}
use Rattle.precedence.proofs.WriteLaws.{puts_none}
use Rattle.settling.specs.declared.Printed.{Printed}
use Rattle.settling.specs.Print.{Printable}
use Rattle.settling.proofs.PutLaws.{then}
use Rattle.settling.proofs.PrintLaws.{next_on}
use Rattle.listing.specs.Listing.{shown_span, shown_flags, listed_alternative, listed_item}
use Rattle.listing.specs.Tree.{head_text}
use Rattle.listing.specs.Walk.{PutsHead, OneStands, SomeOne, SomeAll, ShowsOne, ShowsAll, AlternativeGood, ItemGood}
use Rattle.listing.proofs.WalkLaws.{one_next}
use Rattle.listing.proofs.ItemMean.{head_of, NonterminalReads, nonterminal_reads, terminal_reads}

-- ---- list_item

-- its lines are its line, and then its alternatives'
lines_are : (d : Nonterminal) (x y : Text) → x ≡ head_of d → y ≡ bytes_of_each listed_alternative d.alternatives → x ++ y ≡ listed_item (item d)
unfolding head_of listed_item
lines_are d x y p q =
    let S : Text = shown_span d.span in
    let F : Text = shown_flags d in
    ap (λ (k : Text). k ++ y) p ∙ append_assoc d.name (0x20 ∷ (S ++ (F ++ (0x0a ∷ [])))) y ∙ ap (λ (k : Text). d.name ++ (0x20 ∷ k)) (append_assoc S (F ++ (0x0a ∷ [])) y)
    ∙ ap (λ (k : Text). d.name ++ (0x20 ∷ (S ++ k))) (append_assoc F (0x0a ∷ []) y) ∙ ap (λ (k : Text). d.name ++ (0x20 ∷ (S ++ (F ++ (0x0a ∷ k))))) q

module _ (s w : List ℕ) (m : Map) (wd at lim to : ℕ) (h : SomeOne (ItemGood wd) (item_bytes wd) s w m at to) where
  -- a nonterminal of that code
  record Chosen : Type 0 where
    end : ℕ
    one : Nonterminal
    stands : OneStands (ItemGood wd) (item_bytes wd) s w m at end (item one)
    reads : NonterminalReads wd s w m at end one
    below : end ≤ to

  chosen : get_or w at 0 ≡ 16 → Chosen
  chosen c = go h.element h.stands
    where
      go : (x : Item) → OneStands (ItemGood wd) (item_bytes wd) s w m at h.end x → Chosen
      go (item d) st = record { end = h.end; one = d; stands = st; reads = nonterminal_reads wd s w m at h.end d st; below = h.below }
      go (terminal sp o x) st = absurd ((terminal_reads wd s w m at h.end sp o x st).code c)

  pub item_inside : at < length w
  item_inside = go h.element h.stands
    where
      go : (x : Item) → OneStands (ItemGood wd) (item_bytes wd) s w m at h.end x → at < length w
      go (item d) st = omega (arith, (nonterminal_reads wd s w m at h.end d st).room)
      go (terminal sp o x) st = let z = terminal_reads wd s w m at h.end sp o x st in omega (arith, z.inside, z.end)

  pub item_end : length w * 1 < 2 ^ 63 → wd ≤ 3 → Fits w64 (at + 9 + wd)
  item_end l k = record { fits = omega (arith, item_inside) }

  pub item_room : get_or w at 0 ≡ 16 → at + 13 + wd ≤ length w
  item_room c = (chosen c).reads.room

  module _ (g : Printable s w m wd lim to) where
    pub terminal_shown : (get_or w at 0 ≡ 16 → ⊥) → ShowsOne (ItemGood wd) (item_bytes wd) s w m listed_item at lim to (record { at = at + 9 + wd; to = to }) w
    unfolding listed_item
    terminal_shown c = record { put = []; puts = puts_none w lim to g.stop; each = λ e x st l. go e x st }
      where
        go : (e : ℕ) (x : Item) → OneStands (ItemGood wd) (item_bytes wd) s w m at e x → (at + 9 + wd ≡ e) × ([] ≡ listed_item x)
        go e (item d) st = absurd (c (nonterminal_reads wd s w m at e d st).code)
        go e (terminal sp o x) st = ((terminal_reads wd s w m at e sp o x st).end, refl)

    module _ (c : get_or w at 0 ≡ 16) (q : ℕ) (w1 : List ℕ) (o : PutsHead s w m wd at lim to q w1) where
      on : to ≤ q
      on = next_on s w m wd lim to g (head_text wd (texts s w m) w at) q w1 o.puts

      -- a nonterminal that stands there stays
      stays : (e : ℕ) (d : Nonterminal) → e ≤ to → OneStands (ItemGood wd) (item_bytes wd) s w m at e (item d) → NonterminalReads wd s w1 m at e d
      stays e d l st = nonterminal_reads wd s w1 m at e d (one_next (ItemGood wd) (item_bytes wd) s w m wd lim to g (head_text wd (texts s w m) w at) q w1 o.puts at e (item d) l st)

      item_alternatives : SomeAll (AlternativeGood wd) (alternative_bytes wd) s w1 m (le_at 2 w1 (at + 11 + wd)) (first_alternative wd w1 at) q
      item_alternatives =
          let z = chosen c in
          let r = stays z.end z.one z.below z.stands in
          record { end = z.end; elements = z.one.alternatives; many = sym r.many; stand = r.alternatives; below = omega (arith, z.below, on) }

      pub item_shown : (r : Printed) (w2 : List ℕ) → ShowsAll (AlternativeGood wd) (alternative_bytes wd) s w1 m listed_alternative (le_at 2 w1 (at + 11 + wd)) (first_alternative wd w1 at) lim q r w2
          → ShowsOne (ItemGood wd) (item_bytes wd) s w m listed_item at lim to r w2
      item_shown r w2 v = record { put = head_text wd (texts s w m) w at ++ v.put; puts = then o.puts v.puts; each = λ e x st l. go e x l st }
        where
          go : (e : ℕ) (x : Item) → e ≤ to → OneStands (ItemGood wd) (item_bytes wd) s w m at e x → (r.at ≡ e) × (head_text wd (texts s w m) w at ++ v.put ≡ listed_item x)
          go e (item d) l st =
              let R = stays e d l st in
              let told = v.each e d.alternatives (sym R.many) R.alternatives (omega (arith, on)) in
              (told.0, lines_are d (head_text wd (texts s w m) w at) v.put (nonterminal_reads wd s w m at e d st).head told.1)
          go e (terminal sp o x) l st = absurd ((terminal_reads wd s w m at e sp o x st).code c)

pub ruleset itemizing = (rules, item_inside, item_end, item_room, item_shown, terminal_shown)

pub head_printable : (s w : List ℕ) (m : Map) (wd at lim to q : ℕ) (w1 : List ℕ) → PutsHead s w m wd at lim to q w1 → Printable s w1 m wd lim q
head_printable s w m wd at lim to q w1 o = o.printable

pub ruleset printing = (head_printable)

pub item_later : (s w : List ℕ) (m : Map) (wd at lim to q : ℕ) (w1 : List ℕ) → PutsHead s w m wd at lim to q w1 → get_or w at 0 ≡ 16 → SomeOne (ItemGood wd) (item_bytes wd) s w m at to → at + 13 + wd ≤ length w1
item_later s w m wd at lim to q w1 o c h = omega (arith, item_room s w m wd at lim to h c, o.puts.long)

pub ruleset lying = (item_later)

pub some_alternatives : (s w : List ℕ) (m : Map) (wd at lim to q : ℕ) (w1 : List ℕ) → PutsHead s w m wd at lim to q w1 → get_or w at 0 ≡ 16 → SomeOne (ItemGood wd) (item_bytes wd) s w m at to → Printable s w m wd lim to
    → SomeAll (AlternativeGood wd) (alternative_bytes wd) s w1 m (le_at 2 w1 (at + 11 + wd)) (first_alternative wd w1 at) q
some_alternatives s w m wd at lim to q w1 o c h g = item_alternatives s w m wd at lim to h g c q w1 o

pub ruleset somewhere = (some_alternatives)

-- ---- list_rest: d is the nonterminal's command
module _ (s w : List ℕ) (m : Map) (wd at a n : ℕ) (d : NonterminalData) (e : a ≡ first_alternative wd w at) (i : n ≡ d.alternatives) (y : d ≡ nonterminal_here wd w at) where
  many : n ≡ le_at 2 w (at + 11 + wd)
  many = i ∙ ap (λ (k : NonterminalData). k.alternatives) y
