-- The look at the bytes of a symbol: `quick`, and the loop of `symbols` over what it finds; one law for each way out. Assumes nothing.
use mathlib.Core.Path.{◌≡◌, refl, sym, ap, ◌∙◌}
use mathlib.Core.Bool.{true}
use mathlib.Core.List.{List, [], ◌∷◌}
use Prim.Native.Nat.{ℕ, zero, suc, ◌+◌, ◌-◌, ◌*◌, ◌^◌, ◌<◌, ◌≤◌}
use native.Mathlib.Omega.{arith}
use borrow.Author.Rules.{rules}
use borrow.Author.Tests.{lt-ltb, le-ltb, lt-leb, ltb-true, ltb-false, eqb-true, eqb-false}
use lib.Dec.{ltb, eqb}
use lib.ListN.{length, get_or}
use Rattle.octets.specs.Working.Choice.{pick}
use Rattle.octets.specs.Plain.Numbers.{le_at}
use Rattle.octets.proofs.ChoiceLaws.{by_pick}
use Rattle.parse_tree.specs.Working.Nodes.{node_at, node_by, symbol_node_at, span_in}
use Rattle.parse_tree.specs.Working.Nested.{inside_by, inside_at}
use Rattle.parse_tree.specs.Working.Places.{class_of, allowed_at, table, symbols_place}
use Rattle.parse_tree.specs.Working.Questions.{defined, suits}
use Rattle.parse_tree.specs.Working.Operands.{inside_of, inside_kind, inside}
use Rattle.parse_tree.specs.Plain.Reading.{Reading, got, refused, then, times}
use Rattle.parse_tree.specs.Working.Decode.{ask, read_sym}
use Rattle.parse_tree.specs.declared.syntax.SymbolKind.{SymbolKind}
use Rattle.parse_tree.specs.declared.syntax.Node.{Node}
use Rattle.parse_tree.specs.declared.refusal.Refusal.{Refusal}
use Rattle.texts.specs.Atoms.{atoms_of}
use Rattle.validate.specs.Steps.{asked_of, step_of}
use Rattle.validate.specs.Quick.{Kinded, QuickPassed, QuickInside}
use Rattle.validate.specs.declared.Atoms.{Atoms}
use Rattle.std.specs.Prelude.{Option, Some, None, Result, Ok, Err}
use mir.Syntax.{w64}
use mir.Val.{Fits}
use Rattle.validate.proofs.CommandCode.{asked_is, asked_got}
use Rattle.validate.proofs.SymbolsCode.{walking, symbols_next, symbols_stop, symbol_leaf, symbol_around, symbol_over}
use Rattle.validate.proofs.PassesCode.{at_named, at-macro, at-repeat, at-choose, at_name, at-group, at_bare}

-- ---- `quick`
module _ (s : List ℕ) (m : Atoms) (left at c r : ℕ) (e : c ≡ get_or s at 0) (q : Kinded s m c at r) where
  pub quick_fits : at < length s → 10 + m.width.bytes ≤ length s - at → length s < 2 ^ 64 → Fits w64 (at + r)
  quick_fits h k l = record { fits = omega (arith, q.small) }

  pub quick_yes : (left ≡ 0 → ⊥) → at < length s → 10 + m.width.bytes ≤ length s - at → 32 ≤ c → c ≤ 44 → QuickPassed s m left at (at + r)
  unfolding node_at node_by pick class_of allowed_at table defined suits
  quick_yes d h k l u =
      let i : node_at m.width.bytes s at ≡ Some (Node.Symbol (span_in s (at + 1)) q.kind) = simp (lt-leb (length s) at h, ← e, le-ltb c 32 l, lt-ltb c 45 (omega arith)) q.is in
      record {
        kind = q.kind;
        is = rw (← e) q.is;
        asked = asked_got (ask m.four m.width.bytes s (atoms_of s m.texts.count) symbols_place left at) (Node.Symbol (span_in s (at + 1)) q.kind) (at + r)
            (asked_is m.four s m.width.bytes m.texts.count symbols_place left at (Some (Node.Symbol (span_in s (at + 1)) q.kind)) (sym i) (Node.Symbol (span_in s (at + 1)) q.kind) refl 7 refl true refl refl true (sym q.defined) refl (omega arith) true (sym q.suited) r refl q.long);
        room = omega arith;
        deep = omega arith;
      }

pub ruleset quickly = (rules, quick_fits, quick_yes)

-- ---- what the code says of the symbols inside is what the command says
-- how many symbols stand inside it, if there is one
unfoldable held_of : Option Node → ℕ
held_of None = 0
held_of (Some n) = inside n

module _ (w : ℕ) (s : List ℕ) (c at : ℕ) (narrow : 2 ≤ w) (room : at + (10 + w) ≤ length s) where
  held-named : c < 37 → 0 ≡ held_of (symbol_node_at w c s at)
  unfolding held_of inside
  held-named h = rw (at_named w s c at room narrow h)

  held-bare : 41 < c → 0 ≡ held_of (symbol_node_at w c s at)
  unfolding held_of inside
  held-bare h = rw (at_bare w s c at room narrow (omega arith) (λ z. absurd (omega arith)) (λ z. absurd (omega arith)) (λ z. absurd (omega arith)) (λ z. absurd (omega arith)) (λ z. absurd (omega arith)))

  held-macro : c ≡ 37 → get_or s (at + 9 + w) 0 ≡ held_of (symbol_node_at w c s at)
  unfolding held_of inside inside_of
  held-macro h = rw (at-macro w s c at room narrow h)

  held-group : c ≡ 41 → le_at 2 s (at + 9) ≡ held_of (symbol_node_at w c s at)
  unfolding held_of inside inside_of
  held-group h = rw (at-group w s c at room narrow h)

  held-around : 38 ≤ c → c ≤ 40 → 1 ≡ held_of (symbol_node_at w c s at)
  unfolding held_of inside
  held-around h k = go (c - 38) refl
    where
      go : (j : ℕ) → c - 38 ≡ j → 1 ≡ held_of (symbol_node_at w c s at)
      go zero z = rw (at-repeat w s c at room narrow (omega arith))
      go (suc zero) z = rw (at-choose w s c at room narrow (omega arith))
      go (suc (suc zero)) z = rw (at_name w s c at room narrow (omega arith))
      go (suc (suc (suc j))) z = absurd (omega arith)

  inside-held : inside_by w s at c ≡ held_of (symbol_node_at w c s at)
  unfolding inside_by
  inside-held =
      let P : ℕ → Type 0 = λ n. n ≡ held_of (symbol_node_at w c s at) in
      by_pick P (eqb c 37) (λ h. held-macro (eqb-true c 37 h)) (λ h. by_pick P (eqb c 41) (λ i. held-group (eqb-true c 41 i)) (λ i.
      let d : c ≡ 37 → ⊥ = eqb-false c 37 h in
      let f : c ≡ 41 → ⊥ = eqb-false c 41 i in
      by_pick P (ltb c 38) (λ j. held-named (omega (arith, ltb-true c 38 j))) (λ j. by_pick P (ltb 40 c) (λ k. held-bare (omega (arith, ltb-true 40 c k))) (λ k. held-around (ltb-false c 38 j) (ltb-false 40 c k)))))

-- ---- the loop of `symbols`
times-one : {A : Type 0} (f : ℕ → Reading A) (e : ℕ) → step_of (times f 1 e) ≡ step_of (f e)
unfolding times then step_of
times-one {A = A} f e = go (f e) refl
  where
    go : (r : Reading A) → f e ≡ r → step_of (then (f e) (λ x d. then (got [] d) (λ xs d'. got (x ∷ xs) d'))) ≡ step_of (f e)
    go (got x d) z = rw z
    go (refused k p) z = rw z

-- what stands inside says what the symbol says
module _ (s : List ℕ) (m : Atoms) (left at f : ℕ) (p : QuickPassed s m left at f) where
  asked : Ok (Node.Symbol (span_in s (at + 1)) p.kind, f) ≡ asked_of (ask m.four m.width.bytes s (atoms_of s m.texts.count) symbols_place left at)
  unfolding asked_of
  asked = rw p.asked

  inner : (k : SymbolKind) → p.kind ≡ k → (i : ℕ) → i ≡ inside_kind k → (y : Result ℕ Refusal) → y ≡ step_of (times (read_sym m.four m.width.bytes s (atoms_of s m.texts.count) (left - 1)) i f)
      → y ≡ step_of (read_sym m.four m.width.bytes s (atoms_of s m.texts.count) left at)
  unfolding times step_of
  inner (SymbolKind.Leaf l) v i e y o =
      (rw e at o) ∙ symbol_leaf m.four s m.width.bytes m.texts.count left at _ asked (Node.Symbol (span_in s (at + 1)) p.kind) f refl (span_in s (at + 1)) p.kind refl l v
  inner (SymbolKind.Around a) v i e y o =
      symbol_around m.four s m.width.bytes m.texts.count left at _ asked (Node.Symbol (span_in s (at + 1)) p.kind) f refl (span_in s (at + 1)) p.kind refl a y v
      ((rw e at o) ∙ times-one (read_sym m.four m.width.bytes s (atoms_of s m.texts.count) (left - 1)) f)
  inner (SymbolKind.Over x) v i e y o =
      symbol_over m.four s m.width.bytes m.texts.count left at _ asked (Node.Symbol (span_in s (at + 1)) p.kind) f refl (span_in s (at + 1)) p.kind refl x i y v e o

module _ (s : List ℕ) (m : Atoms) (left at f : ℕ) (q : QuickPassed s m left at f) where
  pub quick_room : at + (10 + m.width.bytes) ≤ length s
  quick_room = q.room

  pub quick_deep : 1 ≤ left
  quick_deep = omega (arith, q.deep)

  pub quick_falls : (t : ℕ) → 2 * left + 1 ≡ t → 2 * (left - 1) + 1 < t
  quick_falls t e = omega (arith, q.deep)

  module _ (i : ℕ) (e : i ≡ inside_at m.width.bytes s at) where
    said : (y : Result ℕ Refusal) → y ≡ step_of (times (read_sym m.four m.width.bytes s (atoms_of s m.texts.count) (left - 1)) i f) → y ≡ step_of (read_sym m.four m.width.bytes s (atoms_of s m.texts.count) left at)
    unfolding inside_at held_of inside
    said y o = inner s m left at f q q.kind refl i (e ∙ inside-held m.width.bytes s (get_or s at 0) at m.width.narrow q.room ∙ ap held_of q.is) y o

    -- k are to come from `at` on, and x is what all of them say
    module _ (k : ℕ) (x : Result ℕ Refusal) (inv : step_of (times (read_sym m.four m.width.bytes s (atoms_of s m.texts.count) left) k at) ≡ x) where
      pub quick_next : i ≡ 0 → (j : ℕ) → k ≡ j + 1 → step_of (times (read_sym m.four m.width.bytes s (atoms_of s m.texts.count) left) j f) ≡ x
      unfolding times step_of
      quick_next z j l = symbols_next m.four s m.width.bytes m.texts.count left k at x inv (Ok f) (said (Ok f) (rw z)) f j refl l

      pub quick_behind : (d : ℕ) → QuickInside s m (left - 1) i f d → (j : ℕ) → k ≡ j + 1 → step_of (times (read_sym m.four m.width.bytes s (atoms_of s m.texts.count) left) j d) ≡ x
      quick_behind d g j l = symbols_next m.four s m.width.bytes m.texts.count left k at x inv (Ok d) (said (Ok d) (sym g.passed)) d j refl l

      module _ (y : Result ℕ Refusal) (o : y ≡ step_of (times (read_sym m.four m.width.bytes s (atoms_of s m.texts.count) (left - 1)) i f)) where
        pub quick_on : (d j : ℕ) → y ≡ Ok d → k ≡ j + 1 → step_of (times (read_sym m.four m.width.bytes s (atoms_of s m.texts.count) left) j d) ≡ x
        quick_on d j z l = symbols_next m.four s m.width.bytes m.texts.count left k at x inv y (said y o) d j z l

        pub quick_stop : (z : Refusal) → y ≡ Err z → 0 < k → Err z ≡ x
        quick_stop z u l = symbols_stop m.four s m.width.bytes m.texts.count left k at x inv y (said y o) z u l

pub ruleset stepping = (walking, quick_room, quick_deep, quick_falls, quick_behind, quick_on, quick_stop)
