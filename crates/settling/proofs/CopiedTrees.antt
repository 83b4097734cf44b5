-- A symbol of the stage by its parts: what is put for it, what stands inside, and where it ends. Assumes nothing.
use mathlib.Core.Path.{◌≡◌, sym, ap, ◌∙◌, subst}
use mathlib.Core.Bool.{Bool}
use mathlib.Core.Logic.{inl}
use mathlib.Core.List.{List, [], ◌++◌}
use Prim.Native.Nat.{ℕ, ◌+◌, ◌-◌, ◌<◌, ◌≤◌}
use native.Mathlib.Omega.{arith}
use lib.ListN.{length, get_or}
use Rattle.parse_tree.specs.Plain.Tree.{Sym, count}
use Rattle.parse_tree.specs.Plain.Display.{shown_all, print}
use Rattle.parse_tree.specs.Working.Nodes.{size_of, long_of}
use Rattle.parse_tree.specs.Working.Within.{Each}
use Rattle.parse_tree.specs.Working.Nested.{inside_by}
use Rattle.texts.specs.Table.{texts}
use Rattle.laws.specs.Flat.{sym_node, children}
use Rattle.laws.proofs.Flat.{node_size}
use Rattle.replacing.specs.Trees.{is_key}
use Rattle.display.specs.Follow.{before_by, behind_by}
use Rattle.display.proofs.StandsLaws.{Standing, before_text, between_text, behind_text, standing, print-whole}
use Rattle.precedence.specs.Write.{Puts}
use Rattle.precedence.proofs.WriteLaws.{puts_beside}
use Rattle.expander.specs.declared.Ground.{Ground}
use Rattle.expander.specs.Ground.{size_in, printed_at}
use Rattle.expander.specs.Replace.{keys_of_all, StandsAt, StandAt}
use Rattle.expander.proofs.KeysLaws.{own_keys, keys_parts, stands_print}
use Rattle.appending.proofs.SymbolsTrees.{each-parts}
use Rattle.settling.specs.declared.copied.Print.{Print}
use Rattle.settling.specs.declared.Printed.{Printed}
use Rattle.settling.specs.Print.{Closing, OneBelow, PrintsSymbol}
use Rattle.settling.specs.Copied.{Said, Copying, SaidSymbol, SaidSymbols}
use Rattle.settling.proofs.PutLaws.{then, puts_as}
use Rattle.settling.proofs.CopiedStays.{copied_on, copying_next, stands_next, stand_next, symbols_said}

-- ---- a symbol that stands at p of the stage
module _ (s w : List ℕ) (x : Print) (left p : ℕ) where
  abbrev g : Ground
  g = x.g

  abbrev at : ℕ
  at = x.g.from + p

  -- where it ends
  module _ (four : Bool) (e : ℕ) (y : Sym) (st : StandsAt s w x.g four left p e y) where
    pub known_here : Standing s w g.m g.width.bytes four left at (g.from + e) y
    known_here = standing s w g.m g.width.bytes four left at (g.from + e) y st

  -- ---- what is asked of it
  module _ (h : SaidSymbol s w x left p) where
    abbrev y : Sym
    y = h.symbol

    pub here : Standing s w g.m g.width.bytes h.four left at (g.from + h.end) y
    here = known_here h.four h.end y h.stands

    pub said_within : at < length w
    said_within = here.within

    pub said_left : 1 ≤ left
    said_left = here.deep

    module _ (c : ℕ) (d : c ≡ get_or w at 0) where
      pub said_room : at + long_of g.width.bytes c ≤ length w
      said_room = rw d here.room

      pub said_high : 32 ≤ c
      said_high = rw d here.reads.high

      -- ---- what stands inside
      pub said_many : count (children y) ≡ inside_by g.width.bytes w at c
      said_many = sym here.reads.held ∙ ap (inside_by g.width.bytes w at) (sym d)

      place_is : g.from + (p + long_of g.width.bytes c) ≡ at + long_of g.width.bytes (get_or w at 0)
      place_is = let z = ap (long_of g.width.bytes) d in omega (arith, z)

      pub said_stand : StandAt s w g h.four (left - 1) (p + long_of g.width.bytes c) h.end (children y)
      said_stand = let z = place_is in rw z here.inside

      inside-keys : Each (Said s w x) (keys_of_all g.width.bytes (texts s w g.m) (children y) (p + long_of g.width.bytes c))
      inside-keys =
          let z : size_of g.width.bytes (sym_node (texts s w g.m) y) ≡ long_of g.width.bytes c = sym here.reads.long ∙ ap (long_of g.width.bytes) (sym d) in
          let k = (each-parts (Said s w x) (keys_of_all g.width.bytes (texts s w g.m) (children y) (p + size_of g.width.bytes (sym_node (texts s w g.m) y))) (own_keys (is_key y) p)
          (subst (Each (Said s w x)) (keys_parts g.width.bytes (texts s w g.m) y p) h.said)).0 in
          subst (λ (n : ℕ). Each (Said s w x) (keys_of_all g.width.bytes (texts s w g.m) (children y) (p + n))) z k

      pub said_inside : (n : ℕ) → n ≡ inside_by g.width.bytes w at c → SaidSymbols s w x n (left - 1) (p + long_of g.width.bytes c)
      said_inside n m = record {
        four = h.four;
        end = h.end;
        symbols = children y;
        many = said_many ∙ sym m;
        levels = omega (arith, h.levels);
        stand = said_stand;
        inside = h.inside;
        said = inside-keys;
      }

    module _ (to : ℕ) (C : Copying s w x to) where
      pub said_print : printed_at s w g p ≡ print y
      said_print = stands_print s w g C.ground h.four left p h.end y h.stands h.inside h.levels

      pub said_end : g.from + h.end ≤ to
      unfolding size_in
      said_end = let o = C.ground.ordered in omega (arith, C.items, h.inside)

      pub said_before : at < to
      said_before = omega (arith, said_end, here.inside.lies.end, long_some)
        where
          long_some : 0 < long_of g.width.bytes (get_or w at 0)
          long_some = omega (arith, here.reads.long, node_size g.width.bytes (texts s w g.m) y)

      pub said_below : OneBelow s w g.m g.width.bytes left at to
      said_below = record { four = h.four; end = g.from + h.end; symbol = y; stands = h.stands; below = said_end }

      pub said_walked : (r : Printed) (w1 : List ℕ) → PrintsSymbol s w g.m g.width.bytes left at x.lim to r w1 → Puts w x.lim to (printed_at s w g p) r.to w1
      said_walked r w1 a = puts_as ((a.each h.four (g.from + h.end) y h.stands said_end).1 ∙ sym said_print) a.puts

      -- ---- what stands before is put
      module _ (c : ℕ) (d : c ≡ get_or w at 0) (q : ℕ) (w1 : List ℕ) (A : Puts w x.lim to (before_by g.width.bytes (texts s w g.m) w at c) q w1) where
        pub before_on : Copying s w1 x q
        before_on = copying_next s w x to C (before_by g.width.bytes (texts s w g.m) w at c) q w1 A

        before-is : before_by g.width.bytes (texts s w g.m) w at c ≡ before_text y
        before-is = ap (before_by g.width.bytes (texts s w g.m) w at) d ∙ here.reads.before

        pub before-inside : (n : ℕ) → n ≡ inside_by g.width.bytes w at c → SaidSymbols s w1 x n (left - 1) (p + long_of g.width.bytes c)
        before-inside n m = symbols_said s w x to C (before_by g.width.bytes (texts s w g.m) w at c) q w1 A n (left - 1) (p + long_of g.width.bytes c) (said_inside c d n m)

        pub before-stand : StandAt s w1 g h.four (left - 1) (p + long_of g.width.bytes c) h.end (children y)
        before-stand = stand_next s w x to C (before_by g.width.bytes (texts s w g.m) w at c) q w1 A h.four (left - 1) (p + long_of g.width.bytes c) h.end (children y) h.inside (said_stand c d)

        -- ---- and what stands inside
        module _ (mid : List ℕ) (z : ℕ) (w2 : List ℕ) (B : Puts w1 x.lim q mid z w2) where
          pub inside_on : Copying s w2 x z
          inside_on = copying_next s w1 x q before_on mid z w2 B

          stands_two : StandsAt s w2 g h.four left p h.end y
          stands_two =
              stands_next s w1 x q before_on mid z w2 B h.four left p h.end y h.inside
              (stands_next s w x to C (before_by g.width.bytes (texts s w g.m) w at c) q w1 A h.four left p h.end y h.inside h.stands)

          code_two : get_or w2 at 0 ≡ c
          code_two =
              puts_beside w1 w2 x.lim q mid z B at (inl (omega (arith, said_before, copied_on s w x to C (before_by g.width.bytes (texts s w g.m) w at c) q w1 A)))
              ∙ puts_beside w w1 x.lim to (before_by g.width.bytes (texts s w g.m) w at c) q A at (inl said_before) ∙ sym d

          pub inside-closing : Closing w2 g.width.bytes at c x.lim z
          inside-closing = record { room = omega (arith, said_room c d, A.long, B.long); inside = inside_on.printable.inside; stop = inside_on.printable.stop }

          behind_is : behind_by w2 at c ≡ behind_text y
          behind_is = ap (behind_by w2 at) (sym code_two) ∙ (standing s w2 g.m g.width.bytes h.four left at (g.from + h.end) y stands_two).reads.behind

          -- theorem: and what stands behind: its printed form
          pub parts_put : mid ≡ shown_all (children y) (between_text y) [] → (r : ℕ) (w3 : List ℕ) → Puts w2 x.lim z (behind_by w2 at c) r w3 → Puts w x.lim to (printed_at s w g p) r w3
          parts_put m r w3 D =
              let e : before_by g.width.bytes (texts s w g.m) w at c ++ (mid ++ behind_by w2 at c) ≡ printed_at s w g p = cc (before-is, m, behind_is, print-whole y, said_print) in
              puts_as e (then A (then B D))
