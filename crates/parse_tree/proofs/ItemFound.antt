-- What is read lies in the tape and is within its limits: symbols, alternatives, items. Assumes nothing.
use mathlib.Core.Path.{◌≡◌, refl, ◌∙◌}
use mathlib.Core.Bool.{Bool, true}
use mathlib.Core.List.{List, [], ◌∷◌}
use Prim.Native.Nat.{ℕ, zero, suc, ◌≤◌}
use native.Mathlib.Omega.{arith}
use lib.ListN.{length}
use Rattle.octets.specs.Plain.Numbers.{Bytes}
use Rattle.octets.proofs.LiesLaws.{lies_append}
use Rattle.parse_tree.specs.Plain.Tree.{Text, Sym, Attribute, Condition, Alternative, item, count, syms_of, conditions}
use Rattle.parse_tree.specs.Plain.Texts.{is_name, distinct}
use Rattle.parse_tree.specs.Working.Nodes.{node_bytes}
use Rattle.parse_tree.specs.Working.Places.{items_place, arguments_place, alternatives_place, attributes_place, conditions_place, symbols_place}
use Rattle.parse_tree.specs.Plain.Reading.{got, then, times}
use Rattle.parse_tree.specs.Working.Operands.{leaf_of, around_of, over_of, inside_of, alternative_of, nonterminal_of}
use Rattle.parse_tree.specs.Working.Decode.{read_sym, read_argument, read_attribute, read_condition, read_alternative, read_item, alternative_parts, nonterminal_parts}
use Rattle.parse_tree.specs.Plain.ReadTape.{first_of}
use Rattle.parse_tree.specs.Working.Encode.{sym_bytes, argument_bytes, attribute_bytes, condition_bytes, alternative_bytes, item_bytes}
use Rattle.parse_tree.specs.Working.Within.{Uses, SymWithin, AttributeWithin, ConditionWithin, AlternativeWithin, ItemWithin}
use Rattle.parse_tree.specs.declared.syntax.Span.{Span}
use Rattle.parse_tree.specs.declared.syntax.NonterminalData.{NonterminalData}
use Rattle.parse_tree.specs.declared.syntax.Alternative.{Alternative as AlternativeNode}
use Rattle.parse_tree.specs.declared.syntax.SymbolKind.{SymbolKind}
use Rattle.parse_tree.specs.declared.syntax.Node.{Node}
use Rattle.parse_tree.proofs.ReadingLaws.{never, then-got, Found, FoundAll, found_as, Finds, times-then}
use Rattle.parse_tree.proofs.Asking.{Passes, ask_then}
use Rattle.parse_tree.proofs.Expecting.{item_wanted, argument-wanted, alternative_wanted, attribute_wanted, condition_wanted, symbol_wanted}
use Rattle.parse_tree.proofs.SymLists.{count-syms, bytes_syms, within_syms}
use Rattle.parse_tree.proofs.FromCommands.{leaf_within, around_within, over_within, argument-within, attribute_within, condition_within, one_condition, alternative_within, nonterminal_within, terminal_within}

-- of at most one condition none is lost
all_conditions : (cs : List Condition) → length cs ≤ 1 → conditions (first_of cs) ≡ cs
all_conditions [] h = refl
all_conditions (c ∷ []) h = refl
all_conditions (c ∷ c' ∷ cs) h = absurd (omega arith)

module _ (four : Bool) (w : ℕ) (s : List ℕ) (ts : List Text) (b : Bytes s) (d : distinct ts ≡ true) where
  -- the command n lies from a to m and passes
  abbrev Command : ℕ → ℕ → Node → Type 0
  Command a m n = Found s (node_bytes w) (Passes four w ts) a n m

  -- ---- symbols: f reads those inside
  kind-finds : (left : ℕ) → Finds s (read_sym four w s ts left) (sym_bytes w ts) (λ x. SymWithin four w ts x left) → (sp : Span) (k : SymbolKind) (a m : ℕ) (x : Sym) (e : ℕ) → Command a m (Node.Symbol sp k)
      → elim k [
        | SymbolKind.Leaf l ↦ got (Sym.leaf sp (leaf_of ts l)) m
        | SymbolKind.Around o ↦ then (read_sym four w s ts left m) (λ y e'. got (Sym.around sp (around_of ts o) y) e')
        | SymbolKind.Over o ↦ then (times (λ p. read_sym four w s ts left p) (inside_of o) m) (λ ys e'. got (Sym.over sp (over_of ts o) (syms_of ys)) e')
      ] ≡ got x e
      → Found s (sym_bytes w ts) (λ y. SymWithin four w ts y (suc left)) a x e
  unfolding sym_bytes
  kind-finds left f sp (SymbolKind.Leaf l) a m x e c p =
      let (u, v) = leaf_within four w ts d sp l c.within in
      found_as p (record { lies = rw v c.lies; within = (c.within.fits.0, u) })
  kind-finds left f sp (SymbolKind.Around o) a m x e c p =
      let (u, v) = around_within four w ts d sp o c.within in
      let h = then-got (read_sym four w s ts left m) _ p in
      let i = f m h.value h.mid h.first in
      found_as h.second (record { lies = rw v (lies_append c.lies i.lies); within = (c.within.fits.0, u, i.within) })
  kind-finds left f sp (SymbolKind.Over o) a m x e c p =
      let (u, v) = over_within four w ts d sp o c.within in
      times-then s (λ q. read_sym four w s ts left q) (sym_bytes w ts) (λ y. SymWithin four w ts y left) f (inside_of o) m _ p (λ xs m₁ i r.
      let n : count (syms_of xs) ≡ inside_of o = count-syms xs ∙ i.within.1 in
      found_as r (record {
        lies = rw (n, v, bytes_syms w ts xs) (lies_append c.lies i.lies);
        within = (c.within.fits.0, rw n u, within_syms four w ts left xs i.within.0);
      }))

  pub sym_finds : (left : ℕ) → Finds s (read_sym four w s ts left) (sym_bytes w ts) (λ x. SymWithin four w ts x left)
  unfolding read_sym
  sym_finds zero a x e p = ask_then four w s ts symbols_place zero b _ a p (λ n m c q. absurd (never q))
  sym_finds (suc left) a x e p =
      ask_then four w s ts symbols_place (suc left) b _ a p (λ n m c q.
      symbol_wanted (Command a m) a m x e _ n c q (λ sp k h r.
      kind-finds left (sym_finds left) sp k a m x e h r))

  -- ---- what stands in an item
  argument-finds : Finds s (read_argument four w s ts) (argument_bytes w ts) (Uses four w ts is_name)
  unfolding read_argument argument_bytes
  argument-finds a x e p =
      ask_then four w s ts arguments_place 1 b _ a p (λ n m c q.
      argument-wanted (Command a m) a m x e _ n c q (λ k h r.
      let (u, v) = argument-within four w ts d k h.within in
      found_as r (record { lies = rw v h.lies; within = u })))

  attribute_finds : Finds s (read_attribute four w s ts) (attribute_bytes w ts) (AttributeWithin four w ts)
  unfolding read_attribute attribute_bytes
  attribute_finds a x e p =
      ask_then four w s ts attributes_place 1 b _ a p (λ n m c q.
      attribute_wanted (Command a m) a m x e _ n c q (λ k h r.
      let (u, v) = attribute_within four w ts d k h.within in
      found_as r (record { lies = rw v h.lies; within = u })))

  condition_finds : Finds s (read_condition four w s ts) (condition_bytes w ts) (ConditionWithin four w ts)
  unfolding read_condition condition_bytes
  condition_finds a x e p =
      ask_then four w s ts conditions_place 1 b _ a p (λ n m c q.
      condition_wanted (Command a m) a m x e _ n c q (λ k h r.
      let (u, v) = condition_within four w ts d k h.within in
      found_as r (record { lies = rw v h.lies; within = u })))

  alternative_found : (k : AlternativeNode) (a m m₁ m₂ m₃ : ℕ) (as' : List Attribute) (cs : List Condition) (xs : List Sym) → Command a m (Node.Alternative k)
      → FoundAll s (attribute_bytes w ts) (AttributeWithin four w ts) k.attributes m as' m₁
      → FoundAll s (condition_bytes w ts) (ConditionWithin four w ts) k.conditions m₁ cs m₂
      → FoundAll s (sym_bytes w ts) (λ x. SymWithin four w ts x 64) k.symbols m₂ xs m₃
      → Found s (alternative_bytes w ts) (AlternativeWithin four w ts) a (alternative_of ts k as' (first_of cs) (syms_of xs)) m₃
  unfolding alternative_bytes alternative_of
  alternative_found k a m m₁ m₂ m₃ as' cs xs h i j l =
      let o : conditions (first_of cs) ≡ cs = all_conditions cs (omega (arith, j.within.1, one_condition four w ts d k h.within)) in
      let (u, v) =
      alternative_within four w ts d k as' (first_of cs) (syms_of xs) h.within i.within.0 i.within.1 (rw o j.within.0) (rw o j.within.1)
      (within_syms four w ts 64 xs l.within.0) (count-syms xs ∙ l.within.1)
      in
      record { lies = rw (v, o, bytes_syms w ts xs) (lies_append h.lies (lies_append i.lies (lies_append j.lies l.lies))); within = u }

  alternative_finds : Finds s (read_alternative four w s ts) (alternative_bytes w ts) (AlternativeWithin four w ts)
  unfolding read_alternative alternative_parts
  alternative_finds a x e p =
      ask_then four w s ts alternatives_place 1 b _ a p (λ n m c q.
      alternative_wanted (Command a m) a m x e _ n c q (λ k h r.
      times-then s (read_attribute four w s ts) (attribute_bytes w ts) (AttributeWithin four w ts) attribute_finds k.attributes m _ r (λ as' m₁ i r₁.
      times-then s (read_condition four w s ts) (condition_bytes w ts) (ConditionWithin four w ts) condition_finds k.conditions m₁ _ r₁ (λ cs m₂ j r₂.
      times-then s (λ t. read_sym four w s ts 64 t) (sym_bytes w ts) (λ y. SymWithin four w ts y 64) (sym_finds 64) k.symbols m₂ _ r₂ (λ xs m₃ l r₃.
      found_as r₃ (alternative_found k a m m₁ m₂ m₃ as' cs xs h i j l))))))

  nonterminal_found : (k : NonterminalData) (a m m₁ m₂ : ℕ) (args : List Text) (alts : List Alternative) → Command a m (Node.Nonterminal k)
      → FoundAll s (argument_bytes w ts) (Uses four w ts is_name) k.args m args m₁
      → FoundAll s (alternative_bytes w ts) (AlternativeWithin four w ts) k.alternatives m₁ alts m₂
      → Found s (item_bytes w ts) (ItemWithin four w ts) a (item (nonterminal_of ts k args alts)) m₂
  unfolding item_bytes nonterminal_of
  nonterminal_found k a m m₁ m₂ args alts h i j =
      let (u, v) = nonterminal_within four w ts d k args alts h.within i.within.0 i.within.1 j.within.0 j.within.1 in
      record { lies = rw v (lies_append h.lies (lies_append i.lies j.lies)); within = u }

  pub item_finds : Finds s (read_item four w s ts) (item_bytes w ts) (ItemWithin four w ts)
  unfolding read_item nonterminal_parts
  item_finds a x e p =
      ask_then four w s ts items_place 1 b _ a p (λ n m c q.
      item_wanted (Command a m) a m x e _ _ n c q
      (λ k h r.
      times-then s (read_argument four w s ts) (argument_bytes w ts) (Uses four w ts is_name) argument-finds k.args m _ r (λ args m₁ i r₁.
      times-then s (read_alternative four w s ts) (alternative_bytes w ts) (AlternativeWithin four w ts) alternative_finds k.alternatives m₁ _ r₁ (λ alts m₂ j r₂.
      found_as r₂ (nonterminal_found k a m m₁ m₂ args alts h i j))))
      (λ k h r.
      let (u, v) = terminal_within four w ts d k h.within in
      found_as r (record { lies = rw v h.lies; within = u })))
