-- The way out of list_alternative, and what it asks on its way. Assumes nothing.
use mathlib.Core.Path.{◌≡◌, sym, ap, ◌∙◌}
use mathlib.Core.Bool.{false}
use mathlib.Core.List.{List, [], ◌∷◌, ◌++◌}
use Prim.Native.Nat.{ℕ, ◌+◌, ◌≤◌}
use native.Mathlib.Omega.{arith}
use borrow.Author.Rules.{rules}
use lib.ListN.{length}
use Rattle.octets.specs.Working.Choice.{pick}
use Rattle.parse_tree.specs.Plain.Tree.{Text, Alternative, count}
use Rattle.parse_tree.specs.Plain.Display.{shown_all}
use Rattle.parse_tree.specs.Working.Encode.{alternative_bytes}
use Rattle.parse_tree.specs.Working.Nodes.{alternative_here}
use Rattle.parse_tree.specs.declared.syntax.Alternative.{Alternative as Command}
use Rattle.texts.specs.declared.Map.{Map}
use Rattle.texts.specs.Table.{texts}
use Rattle.grades.specs.Annotations.{symbols_from}
use Rattle.display.specs.Standing.{SymsStand}
use Rattle.display.specs.Follow.{between_by}
use Rattle.precedence.specs.Write.{Puts}
use Rattle.settling.specs.declared.Printed.{Printed}
use Rattle.settling.specs.Print.{Printable, SomeBelow, PrintsList}
use Rattle.settling.proofs.PutLaws.{then}
use Rattle.settling.proofs.PrintLaws.{next_on, printable_next, symbols_next}
use Rattle.listing.specs.Listing.{listed_alternative}
use Rattle.listing.specs.Tree.{action_at}
use Rattle.listing.specs.Walk.{OneStands, SomeOne, ShowsOne, AlternativeGood}
use Rattle.listing.proofs.WalkLaws.{one_next}
use Rattle.listing.proofs.AlternativeMean.{AlternativeReads, alternative_reads}

module _ (s w : List ℕ) (m : Map) (wd at lim to : ℕ) (h : SomeOne (AlternativeGood wd) (alternative_bytes wd) s w m at to) where
  first : AlternativeReads wd s w m at h.end h.element
  first = alternative_reads wd s w m at h.end h.element h.stands

  alternative_room : at + 14 + wd ≤ length w
  alternative_room = let z = first in omega (arith, z.room, z.inside)

  pub alternative_whole : at + (14 + wd) ≤ length w
  alternative_whole = let z = alternative_room in omega arith

  pub alternative_start : at + 11 ≤ length w
  alternative_start = let z = alternative_room in omega arith

  module _ (g : Printable s w m wd lim to) (d : Command) (n b : ℕ) (y : d ≡ alternative_here wd w at) (i : n ≡ d.symbols) (t : b ≡ symbols_from wd w at) (q : ℕ) (w1 : List ℕ) (u : Puts w lim to (32 ∷ 32 ∷ []) q w1) where
    on : to ≤ q
    on = next_on s w m wd lim to g (32 ∷ 32 ∷ []) q w1 u

    -- the symbols of whatever stands there
    stand : (e : ℕ) (a : Alternative) → e ≤ to → AlternativeReads wd s w m at e a → SymsStand s w1 m wd false 64 b e a.symbols
    stand e a l r = rw t (symbols_next s w m wd lim to g (32 ∷ 32 ∷ []) q w1 u false 64 (symbols_from wd w at) e a.symbols l r.symbols)

    counted : (e : ℕ) (a : Alternative) → AlternativeReads wd s w m at e a → count a.symbols ≡ n
    counted e a r = sym (i ∙ ap (λ (k : Command). k.symbols) y ∙ r.many)

    pub alternative_symbols : SomeBelow s w1 m wd n 64 b q
    alternative_symbols =
        let z = first in
        record { four = false; end = h.end; symbols = h.element.symbols; many = counted h.end h.element z; stand = stand h.end h.element h.below z; below = omega (arith, h.below, on) }

    pub alternative_printable : Printable s w1 m wd lim q
    alternative_printable = printable_next s w m wd lim to g (32 ∷ 32 ∷ []) q w1 u

    module _ (z : Printed) (w2 : List ℕ) (v : PrintsList s w1 m wd n 64 b 41 lim q z w2) where
      later : (e : ℕ) (a : Alternative) → e ≤ to → OneStands (AlternativeGood wd) (alternative_bytes wd) s w m at e a → OneStands (AlternativeGood wd) (alternative_bytes wd) s w2 m at e a
      later e a l st =
          one_next (AlternativeGood wd) (alternative_bytes wd) s w1 m wd lim q (printable_next s w m wd lim to g (32 ∷ 32 ∷ []) q w1 u) v.bytes z.to w2 v.puts at e a (omega (arith, on))
          (one_next (AlternativeGood wd) (alternative_bytes wd) s w m wd lim to g (32 ∷ 32 ∷ []) q w1 u at e a l st)

      pub alternative_shown : (r : ℕ) (w3 : List ℕ) → Puts w2 lim z.to (action_at wd (texts s w2 m) w2 at ++ (10 ∷ [])) r w3
          → ShowsOne (AlternativeGood wd) (alternative_bytes wd) s w m listed_alternative at lim to (record { at = z.at; to = r }) w3
      unfolding listed_alternative between_by pick
      alternative_shown r w3 x = record {
        put = (32 ∷ 32 ∷ []) ++ (v.bytes ++ (action_at wd (texts s w2 m) w2 at ++ (10 ∷ [])));
        puts = then u (then v.puts x);
        each = λ e a st l.
            let R = alternative_reads wd s w m at e a st in
            let told = v.each false e a.symbols (counted e a R) (stand e a l R) (omega (arith, on)) in
            let act = (alternative_reads wd s w2 m at e a (later e a l st)).action in (
              told.0,
              ap (λ (p : Text). 32 ∷ 32 ∷ (p ++ (action_at wd (texts s w2 m) w2 at ++ (10 ∷ [])))) told.1
                  ∙ ap (λ (p : Text). 32 ∷ 32 ∷ (shown_all a.symbols (32 ∷ []) [] ++ (p ++ (10 ∷ [])))) act,
            );
      }

pub printed_printable : (s w : List ℕ) (m : Map) (wd n left at c lim to : ℕ) (z : Printed) (w2 : List ℕ) → PrintsList s w m wd n left at c lim to z w2 → Printable s w2 m wd lim z.to
printed_printable s w m wd n left at c lim to z w2 v = v.printable

pub alternative_low : (s w : List ℕ) (m : Map) (wd at lim to : ℕ) → SomeOne (AlternativeGood wd) (alternative_bytes wd) s w m at to → to ≤ lim + 1 → at + 14 + wd ≤ lim + 1
alternative_low s w m wd at lim to h l = let z = first s w m wd at lim to h in omega (arith, z.room, h.below)

pub ruleset alternating = (rules, alternative_whole, alternative_start, alternative_printable, alternative_symbols, printed_printable, alternative_shown)

pub ruleset lasting = (alternative_low)
