-- The look at the bytes of an item, an argument or an attribute: one law for each way out. Assumes nothing.
use mathlib.Core.Path.{◌≡◌, refl, sym, ◌∙◌}
use mathlib.Core.Bool.{Bool, true, false, ◌&&◌}
use mathlib.Core.List.{List, []}
use Prim.Native.Nat.{ℕ, ◌+◌, ◌-◌, ◌<◌, ◌≤◌}
use native.Mathlib.Omega.{arith}
use borrow.Author.Rules.{rules}
use borrow.Author.Tests.{le-ltb, le-leb, lt-leb, eq-eqb, eqb-false}
use lib.Dec.{ltb, eqb}
use lib.ListN.{length, get_or}
use Rattle.octets.specs.Working.Choice.{pick}
use Rattle.octets.specs.Plain.Numbers.{le_at}
use Rattle.parse_tree.specs.Plain.Texts.{is_name}
use Rattle.parse_tree.specs.Plain.Reading.{got}
use Rattle.parse_tree.specs.Working.Nodes.{node_at, node_by, alternative_node_at, nonterminal_node_at, terminal_node_at, argument_node_at, attribute_node_at, size_of}
use Rattle.parse_tree.specs.Working.Places.{row, class_of, allowed_at, table, items_place, arguments_place, alternatives_place, attributes_place}
use Rattle.parse_tree.specs.Working.Questions.{defined, suits, alternative_defined, attribute_defined}
use Rattle.parse_tree.specs.Working.Decode.{ask}
use Rattle.parse_tree.specs.declared.syntax.Attribute.{Attribute}
use Rattle.parse_tree.specs.declared.syntax.Alternative.{Alternative}
use Rattle.parse_tree.specs.declared.syntax.NonterminalData.{NonterminalData}
use Rattle.parse_tree.specs.declared.syntax.Node.{Node}
use Rattle.parse_tree.proofs.TextLaws.{both}
use Rattle.parse_tree.proofs.SizeLaws.{alternative_size, nonterminal_size, terminal_size, argument-size, attribute_size}
use Rattle.parse_tree.specs.declared.places.Place.{Place}
use Rattle.std.specs.Prelude.{Option, Some, IfSome}
use Rattle.std.specs.Bool.{then_some}
use Rattle.texts.specs.Atoms.{atoms_of}
use Rattle.parse_tree.specs.Working.Nodes.{alternative_here, nonterminal_here, attribute_here}
use Rattle.validate.specs.Quick.{PassedAlternative, PassedNonterminal, PassedTerminal, PassedCommand, terminal_here}
use Rattle.validate.specs.declared.Atoms.{Atoms}
use Rattle.validate.proofs.CommandCode.{asked_got, asked_is}
use Rattle.validate.proofs.PassesCode.{wholly, some_if}

-- the command at a place that is n, may stand there and passes 3 and 4
module _ (s : List ℕ) (m : Atoms) (place at : ℕ) (n : Node) (i : node_at m.width.bytes s at ≡ Some n) (a : allowed_at place (class_of n) ≡ true) where
  asked_here : (z : ℕ) → z ≡ size_of m.width.bytes n → defined m.texts.count n ≡ true → pick m.four (suits (atoms_of s m.texts.count) n) true ≡ true
      → ask m.four m.width.bytes s (atoms_of s m.texts.count) place 1 at ≡ got n (at + z)
  asked_here z e d u =
      asked_got (ask m.four m.width.bytes s (atoms_of s m.texts.count) place 1 at) n (at + z)
      (asked_is m.four s m.width.bytes m.texts.count place 1 at (Some n) (sym i) n refl (class_of n) refl true (sym a) refl true (sym d) refl (omega arith) true (sym u) z refl e)

-- ---- `quick_alternative`, `quick_nonterminal`
module _ (s : List ℕ) (m : Atoms) (at : ℕ) (h : at < length s) where
  pub alternative_passed : (a : Alternative) (r : Bool) (y : Option Alternative) → 14 + m.width.bytes ≤ length s - at → get_or s at 0 ≡ 18 → a ≡ alternative_here m.width.bytes s at
      → r ≡ (alternative_defined m.texts.count a && pick m.four (suits (atoms_of s m.texts.count) (Node.Alternative a)) true) → y ≡ then_some r a → IfSome y (PassedAlternative s m at)
  unfolding node_at node_by pick alternative_node_at defined class_of allowed_at table
  alternative_passed a r y l z q p o =
      let i : node_at m.width.bytes s at ≡ Some (Node.Alternative a) = simp (lt-leb (length s) at h, z, q) (wholly s at (14 + m.width.bytes) _ (omega arith)) in
      let d : Bool = alternative_defined m.texts.count a in
      let u : Bool = pick m.four (suits (atoms_of s m.texts.count) (Node.Alternative a)) true in
      some_if (PassedAlternative s m at) a r y
      (λ b. record {
        here = q;
        asked = asked_here s m alternatives_place at (Node.Alternative a) i refl (14 + m.width.bytes) (alternative_size m.width.bytes (Node.Alternative a) a refl) (both d u (sym p ∙ b)).0 (both d u (sym p ∙ b)).1;
        room = omega arith;
      }) o

  pub nonterminal_passed : (d : NonterminalData) (r : Bool) (y : Option NonterminalData) → 13 + m.width.bytes ≤ length s - at → get_or s at 0 ≡ 16 → d ≡ nonterminal_here m.width.bytes s at → d.flags ≤ 3
      → r ≡ (ltb d.name.0 m.texts.count && pick m.four (is_name (get_or (atoms_of s m.texts.count) d.name.0 [])) true) → y ≡ then_some r d → IfSome y (PassedNonterminal s m at)
  unfolding node_at node_by pick nonterminal_node_at defined suits class_of allowed_at table
  nonterminal_passed d r y l z q f p o =
      let i : node_at m.width.bytes s at ≡ Some (Node.Nonterminal d) = simp (lt-leb (length s) at h, z, q) (wholly s at (13 + m.width.bytes) _ (omega arith)) in
      let j : Bool = ltb d.name.0 m.texts.count in
      let u : Bool = pick m.four (is_name (get_or (atoms_of s m.texts.count) d.name.0 [])) true in
      some_if (PassedNonterminal s m at) d r y
      (λ b.
      let a : ltb d.name.0 m.texts.count ≡ true = (both j u (sym p ∙ b)).0 in
      record {
        here = q;
        asked = asked_here s m items_place at (Node.Nonterminal d) i refl (13 + m.width.bytes) (nonterminal_size m.width.bytes (Node.Nonterminal d) d refl) (simp (a, le-leb d.flags 3 f)) (both j u (sym p ∙ b)).1;
        room = omega arith;
      }) o

pub ruleset quick_parts = (rules, alternative_passed, nonterminal_passed)

-- ---- `quick_terminal`
module _ (s : List ℕ) (m : Atoms) (at : ℕ) where
  terminal_stands : at < length s → 9 + m.width.bytes ≤ length s - at → 48 ≤ get_or s at 0 → get_or s at 0 ≤ 49 → node_at m.width.bytes s at ≡ Some (Node.Terminal (terminal_here m.width.bytes s at))
  unfolding node_at node_by pick terminal_node_at terminal_here
  terminal_stands h l f g = go (eqb (get_or s at 0) 48) refl
    where
      go : (b : Bool) → eqb (get_or s at 0) 48 ≡ b → node_at m.width.bytes s at ≡ Some (Node.Terminal (terminal_here m.width.bytes s at))
      go true e = simp (lt-leb (length s) at h, le-ltb (get_or s at 0) 32 (omega arith), le-ltb (get_or s at 0) 45 (omega arith), e) (wholly s at (9 + m.width.bytes) _ (omega arith))
      go false e =
          let n : get_or s at 0 ≡ 48 → ⊥ = eqb-false (get_or s at 0) 48 e in
          let z : eqb (get_or s at 0) 49 ≡ true = eq-eqb (get_or s at 0) 49 (omega arith) in
          simp (lt-leb (length s) at h, le-ltb (get_or s at 0) 32 (omega arith), le-ltb (get_or s at 0) 45 (omega arith), e, z) (wholly s at (9 + m.width.bytes) _ (omega arith))

  pub terminal_passed : (c k : ℕ) (r : Bool) (y : Option ℕ) → at < length s → 9 + m.width.bytes ≤ length s - at → c ≡ get_or s at 0 → 48 ≤ c → c ≤ 49
      → k ≡ le_at m.width.bytes s (at + 9) → r ≡ (ltb k m.texts.count && pick m.four (is_name (get_or (atoms_of s m.texts.count) k [])) true) → y ≡ then_some r (at + (9 + m.width.bytes)) → IfSome y (PassedTerminal s m at)
  unfolding pick terminal_here defined suits class_of allowed_at table
  terminal_passed c k r y h l e f g q p o =
      let i : node_at m.width.bytes s at ≡ Some (Node.Terminal (terminal_here m.width.bytes s at)) = terminal_stands h l (omega arith) (omega arith) in
      let j : Bool = ltb k m.texts.count in
      let u : Bool = pick m.four (is_name (get_or (atoms_of s m.texts.count) k [])) true in
      some_if (PassedTerminal s m at) (at + (9 + m.width.bytes)) r y
      (λ t.
      let a : ltb k m.texts.count ≡ true = (both j u (sym p ∙ t)).0 in
      let b : pick m.four (is_name (get_or (atoms_of s m.texts.count) k [])) true ≡ true = (both j u (sym p ∙ t)).1 in
      record {
        asked = asked_here s m items_place at (Node.Terminal (terminal_here m.width.bytes s at)) i refl (9 + m.width.bytes)
            (terminal_size m.width.bytes (Node.Terminal (terminal_here m.width.bytes s at)) (terminal_here m.width.bytes s at) refl) (simp (← q, a)) (rw q at b);
        long = refl;
        room = omega arith;
      }) o

pub ruleset quick_terminal = (rules, terminal_passed)

-- ---- `quick_attribute`, `quick_argument`, `quick_command`
module _ (s : List ℕ) (m : Atoms) (at c : ℕ) (h : at < length s) (e : c ≡ get_or s at 0) where
  pub attribute_passed : (a : Attribute) (r : Bool) → 2 + m.width.bytes + m.width.bytes + m.width.bytes ≤ length s - at → c ≡ 19 → a ≡ attribute_here m.width.bytes s at
      → r ≡ (attribute_defined m.texts.count a && pick m.four (suits (atoms_of s m.texts.count) (Node.Attribute a)) true) → (y : Option ℕ) → y ≡ then_some r (at + (2 + m.width.bytes + m.width.bytes + m.width.bytes)) → IfSome y (PassedCommand s m attributes_place at)
  unfolding node_at node_by pick attribute_node_at defined class_of allowed_at table
  attribute_passed a r l f q p y o =
      let z : get_or s at 0 ≡ 19 = sym e ∙ f in
      let i : node_at m.width.bytes s at ≡ Some (Node.Attribute a) = simp (lt-leb (length s) at h, z, q) (wholly s at (2 + m.width.bytes + m.width.bytes + m.width.bytes) _ (omega arith)) in
      let d : Bool = attribute_defined m.texts.count a in
      let u : Bool = pick m.four (suits (atoms_of s m.texts.count) (Node.Attribute a)) true in
      some_if (PassedCommand s m attributes_place at) (at + (2 + m.width.bytes + m.width.bytes + m.width.bytes)) r y
      (λ b. record {
        command = Node.Attribute a;
        asked = asked_here s m attributes_place at (Node.Attribute a) i refl (2 + m.width.bytes + m.width.bytes + m.width.bytes) (attribute_size m.width.bytes (Node.Attribute a) a refl) (both d u (sym p ∙ b)).0 (both d u (sym p ∙ b)).1;
      }) o

  pub argument-passed : (k : ℕ) (r : Bool) → 1 + m.width.bytes ≤ length s - at → c ≡ 17 → k ≡ le_at m.width.bytes s (at + 1)
      → r ≡ (ltb k m.texts.count && pick m.four (is_name (get_or (atoms_of s m.texts.count) k [])) true) → (y : Option ℕ) → y ≡ then_some r (at + (1 + m.width.bytes)) → IfSome y (PassedCommand s m arguments_place at)
  unfolding node_at node_by pick argument_node_at defined suits class_of allowed_at table
  argument-passed k r l f q p y o =
      let z : get_or s at 0 ≡ 17 = sym e ∙ f in
      let n : Node = Node.Argument (record { 0 = k }) in
      let i : node_at m.width.bytes s at ≡ Some (Node.Argument (record { 0 = k })) = simp (lt-leb (length s) at h, z, q) (wholly s at (1 + m.width.bytes) _ (omega arith)) in
      let d : Bool = ltb k m.texts.count in
      let u : Bool = pick m.four (is_name (get_or (atoms_of s m.texts.count) k [])) true in
      some_if (PassedCommand s m arguments_place at) (at + (1 + m.width.bytes)) r y
      (λ b. record {
        command = n;
        asked = asked_here s m arguments_place at n i refl (1 + m.width.bytes) (argument-size m.width.bytes n (record { 0 = k }) refl) (both d u (sym p ∙ b)).0 (both d u (sym p ∙ b)).1;
      }) o

pub command_placed : (s : List ℕ) (m : Atoms) (p q : Place) (at : ℕ) (r : Option ℕ) → IfSome r (PassedCommand s m (row q) at) → p ≡ q → IfSome r (PassedCommand s m (row p) at)
command_placed s m p q at r g e = rw e g

pub ruleset quick_command = (rules, attribute_passed, argument-passed, command_placed)
