-- The run over the commands of an item's alternatives comes to what name resolution says of the alternatives. Assumes nothing.
use mathlib.Core.Path.{◌≡◌, refl, sym, ap, subst, ◌∙◌}
use mathlib.Core.Bool.{Bool, cond}
use mathlib.Core.List.{List, [], ◌∷◌, ◌++◌, append_assoc, append-nil}
use mathlib.Core.Option.{Option, none, some}
use Prim.Native.Nat.{ℕ, zero, suc, ◌+◌, ◌*◌, ◌≤◌}
use native.Mathlib.Omega.{arith}
use lib.Dec.{eqb}
use lib.ListN.{length, length-append}
use Rattle.octets.specs.Working.Choice.{pick}
use Rattle.octets.specs.Plain.Runs.{Lies}
use Rattle.octets.specs.Working.Stores.{store}
use Rattle.octets.proofs.LiesLaws.{lies_split}
use Rattle.octets.proofs.NumbersLaws.{length-le}
use Rattle.octets.proofs.StoreLaws.{store-none, store-append, store-drop}
use Rattle.parse_tree.specs.Working.Refusals.{number_of}
use Rattle.parse_tree.specs.Plain.Tree.{Text, Syms, count, Attribute, Condition, conditions, Alternative}
use Rattle.parse_tree.specs.Plain.Texts.{number}
use Rattle.parse_tree.specs.Plain.WriteTape.{bytes_of_each}
use Rattle.parse_tree.specs.Working.Nodes.{node_bytes, long_of}
use Rattle.parse_tree.specs.Working.Encode.{alternative_node, attribute_node, condition_node, syms_bytes, attribute_bytes, condition_bytes, alternative_bytes}
use Rattle.parse_tree.specs.Working.Within.{Each, ConditionWithin, AlternativeWithin}
use Rattle.parse_tree.specs.declared.syntax.Alternative.{Alternative as AlternativeNode}
use Rattle.parse_tree.specs.declared.syntax.Attribute.{Attribute as AttributeNode}
use Rattle.parse_tree.specs.declared.syntax.Node.{Node}
use Rattle.parse_tree.proofs.SizeLaws.{length_span}
use Rattle.passes.specs.Outcome.{Tree, Outcome, yes, no, after, with_symbols}
use Rattle.passes.proofs.ResolveKeeps.{count_kept}
use Rattle.passes.specs.Resolve.{Def, terminal_def, nonterminal_def, argument_def, kind, lookup, check_condition, validate_symbols, validate_alternatives}
use Rattle.laws.proofs.Flat.{lies_kept, syms_fit_lem}
use Rattle.laws.proofs.Patch.{behind_node}
use Rattle.texts.specs.declared.Map.{Map}
use Rattle.resolve.specs.Cells.{known_at}
use Rattle.resolve.specs.Commands.{RunEnd, ran, stopped, asked_at, run_out}
use Rattle.resolve.specs.Whole.{Apart}
use Rattle.resolve.proofs.CellsLaws.{part_apart, known_off}
use Rattle.resolve.proofs.GrammarLaws.{named}
use Rattle.resolve.proofs.NamesMean.{meant, condition_code}
use Rattle.resolve.proofs.CommandsStep.{enough, up_to, up_to_end, passes, checked_then, condition_step}
use Rattle.resolve.proofs.SymbolsMean.{SymsTold, syms_told}

-- what the run over alternatives comes to: those of a yes are stored, as long as they were; a no is the same
abbrev pub RunTold : (wd : ℕ) (ts : List Text) (w : List ℕ) (at : ℕ) → List Alternative → RunEnd → Outcome (List Alternative) → Type 0
RunTold wd ts w at cs r (yes bs) = (r ≡ ran (store w at (bytes_of_each (alternative_bytes wd ts) bs))) × (length (bytes_of_each (alternative_bytes wd ts) bs) ≡ length (bytes_of_each (alternative_bytes wd ts) cs))
RunTold wd ts w at cs r (no q s) = r ≡ stopped q s

-- ---- an alternative's bytes: those before its symbols, and theirs
module _ (wd : ℕ) (ts : List Text) where
  head_bytes : Alternative → List ℕ
  head_bytes a = node_bytes wd (alternative_node ts a) ++ (bytes_of_each (attribute_bytes wd ts) a.attributes ++ bytes_of_each (condition_bytes wd ts) (conditions a.condition))

  same_node : (a : Alternative) (ys : Syms) → count ys ≡ count a.symbols → alternative_node ts (with_symbols a ys) ≡ alternative_node ts a
  unfolding alternative_node
  same_node a ys z = rw z

  with_bytes : (a : Alternative) (ys : Syms) → count ys ≡ count a.symbols → alternative_bytes wd ts (with_symbols a ys) ≡ head_bytes a ++ syms_bytes wd ts ys
  unfolding alternative_bytes head_bytes
  with_bytes a ys z =
      let n = node_bytes wd (alternative_node ts a) in
      let b = bytes_of_each (attribute_bytes wd ts) a.attributes in
      let c = bytes_of_each (condition_bytes wd ts) (conditions a.condition) in
      let y = syms_bytes wd ts ys in
      ap (λ (x : Node). node_bytes wd x ++ (b ++ (c ++ y))) (same_node a ys z) ∙ ap (λ (r : List ℕ). n ++ r) (sym (append_assoc b c y)) ∙ sym (append_assoc n (b ++ c) y)

module _ (m : Map) (wd e : ℕ) (ts : List Text) where
  -- ---- the command of an alternative, and attributes: nothing is asked
  alternative_step : (x : AlternativeNode) (w : List ℕ) (p d : ℕ) → d ≤ e → Lies w p (node_bytes wd (Node.Alternative x)) d → up_to m wd e w p ≡ up_to m wd e w d
  unfolding node_bytes asked_at long_of pick
  alternative_step x w p d h l = passes m wd e w p d 18 _ (omega (arith, l.end)) refl (simp (length-append, length_span, length-le) (omega arith)) l

  attribute_step : (x : AttributeNode) (w : List ℕ) (p d : ℕ) → d ≤ e → Lies w p (node_bytes wd (Node.Attribute x)) d → up_to m wd e w p ≡ up_to m wd e w d
  unfolding node_bytes asked_at long_of pick
  attribute_step x w p d h l = passes m wd e w p d 19 _ (omega (arith, l.end)) refl (simp (length-append, length-le) (omega arith)) l

  attribute_goes : (i : Text) (o : Option (Text × Text)) (w : List ℕ) (p d : ℕ) → d ≤ e → Lies w p (attribute_bytes wd ts (record { id = i; argument = o })) d → up_to m wd e w p ≡ up_to m wd e w d
  unfolding attribute_bytes attribute_node
  attribute_goes i none w p d h l = attribute_step _ w p d h l
  attribute_goes i (some kv) w p d h l = attribute_step _ w p d h l

  attributes_go : (bs : List Attribute) (w : List ℕ) (p d : ℕ) → d ≤ e → Lies w p (bytes_of_each (attribute_bytes wd ts) bs) d → up_to m wd e w p ≡ up_to m wd e w d
  unfolding bytes_of_each
  attributes_go [] w p d h l = ap (up_to m wd e w) (omega (arith, l.end))
  attributes_go (b ∷ bs) w p d h l =
      let x = attribute_bytes wd ts b in
      let y = lies_split w p d (attribute_bytes wd ts b) (bytes_of_each (attribute_bytes wd ts) bs) l in
      attribute_goes b.id b.argument w p (p + length x) (omega (arith, y.1.end)) y.0 ∙ attributes_go bs w (p + length x) d h y.1

  -- ---- a condition: its name is asked
  module _ (G : Tree) (ps : List Text) (four : Bool) where
    abbrev Checked : List ℕ → ℕ → ℕ → Outcome (Unit {0}) → Type 0
    Checked w p d (yes u) = up_to m wd e w p ≡ up_to m wd e w d
    Checked w p d (no q s) = up_to m wd e w p ≡ stopped q s

    checked_from : (w : List ℕ) (p q d : ℕ) (v : Outcome (Unit {0})) → up_to m wd e w p ≡ up_to m wd e w q → Checked w q d v → Checked w p d v
    checked_from w p q d (yes u) z c = z ∙ c
    checked_from w p q d (no n s) z c = z ∙ c

    abbrev Agrees : List ℕ → Type 0
    Agrees w = (n : Text) → meant (known_at m w (number ts n)) ≡ lookup G ps n

    condition_told : (o : Option Condition) → Each (ConditionWithin four wd ts) (conditions o) → (w : List ℕ) → Agrees w → (p d : ℕ) → d ≤ e → Lies w p (bytes_of_each (condition_bytes wd ts) (conditions o)) d
        → Checked w p d (check_condition G ps o)
    unfolding bytes_of_each condition_bytes condition_node node_bytes condition_code pick
    condition_told none f w agree p d h l = ap (up_to m wd e w) (omega (arith, l.end))
    condition_told (some c) f w agree p d h l =
        let y = rw append-nil at l in
        let x = named w wd p 20 c.span (number ts c.lhs) _ d f.0.span f.0.lhs.1 y in
        let z : d ≡ p + (10 + wd + wd) = omega (arith, x.rest.end, length-le wd (number ts c.rhs)) in
        go (lookup G ps c.lhs) (rw (agree c.lhs) at (condition_step m wd e w p d (number ts c.lhs) c.span (omega arith) x.code x.span x.name z))
      where
        go : (o : Option Def) → up_to m wd e w p ≡ checked_then m wd e (condition_code o) (up_to m wd e w d) (λ q. stopped (number_of q) c.span)
            → Checked w p d (elim o [ none ↦ no 8 c.span | some d ↦ cond (eqb (kind d) 3) (yes tt) (no 9 c.span) ])
        go none z = z
        go (some terminal_def) z = z
        go (some (nonterminal_def zero)) z = z
        go (some (nonterminal_def (suc k))) z = z
        go (some argument_def) z = z

    -- ---- an alternative up to its symbols
    head_told : (a : Alternative) → AlternativeWithin four wd ts a → (w : List ℕ) → Agrees w → (p d : ℕ) → d ≤ e → Lies w p (head_bytes wd ts a) d → Checked w p d (check_condition G ps a.condition)
    unfolding head_bytes alternative_node
    head_told a f w agree p d h l =
        let n = node_bytes wd (alternative_node ts a) in
        let b = bytes_of_each (attribute_bytes wd ts) a.attributes in
        let c = bytes_of_each (condition_bytes wd ts) (conditions a.condition) in
        let x = lies_split w p d n (b ++ c) l in
        let y = lies_split w (p + length n) d b c x.1 in
        checked_from w p (p + length n + length b) d (check_condition G ps a.condition)
        (alternative_step _ w p (p + length n) (omega (arith, x.1.end)) x.0 ∙ attributes_go a.attributes w (p + length n) (p + length n + length b) (omega (arith, y.1.end)) y.0)
        (condition_told a.condition f.condition w agree (p + length n + length b) d h y.1)

    -- ---- alternatives, one behind another
    agrees_store : (w : List ℕ) (p : ℕ) (vs : List ℕ) → Apart p (p + length vs) m.base (m.base + 24 * m.count) → Agrees w → Agrees (store w p vs)
    agrees_store w p vs a agree n = ap meant (known_off m w p vs (number ts n) a) ∙ agree n

    abbrev Off : ℕ → ℕ → Type 0
    Off p d = Apart p d m.base (m.base + 24 * m.count)

    off_part : (p q d : ℕ) → p ≤ q → d ≤ e → Off p e → Off q d
    off_part p q d h k a = part_apart p e m.base (m.base + 24 * m.count) q d h k a

    abbrev bytes : List Alternative → List ℕ
    bytes cs = bytes_of_each (alternative_bytes wd ts) cs

    -- one alternative before the others: what its parts and the others come to
    both_told : (a : Alternative) (cs : List Alternative) (w : List ℕ) → Agrees w → (p d d' : ℕ) (H : List ℕ) → H ≡ head_bytes wd ts a → d ≡ p + length H → d' ≡ d + length (syms_bytes wd ts a.symbols) → Lies w p H d
        → (v : Outcome (Unit {0})) (r : Outcome Syms) (k : Outcome (List Alternative)) → validate_symbols G ps a.symbols ≡ r
        → Checked w p d v → SymsTold m wd e ts G ps w d d' (length (syms_bytes wd ts a.symbols)) r
        → ((ys : Syms) → length (syms_bytes wd ts ys) ≡ length (syms_bytes wd ts a.symbols) → RunTold wd ts (store w d (syms_bytes wd ts ys)) d' cs (up_to m wd e (store w d (syms_bytes wd ts ys)) d') k)
        → RunTold wd ts w p (a ∷ cs) (up_to m wd e w p) (after v (λ u. after r (λ ys. after k (λ bs. yes (with_symbols a ys ∷ bs)))))
    unfolding bytes_of_each
    both_told a cs w agree p d d' H z y y' l (no q s) r k i c t f = c
    both_told a cs w agree p d d' H z y y' l (yes u) (no q s) k i c t f = c ∙ t
    both_told a cs w agree p d d' H z y y' l (yes u) (yes ys) (no q s) i c t f = c ∙ t.0 ∙ f ys t.1
    both_told a cs w agree p d d' H z y y' l (yes u) (yes ys) (yes bs) i c t f =
        let g = f ys t.1 in
        let n = count_kept G ps a.symbols ys i in
        let Y = syms_bytes wd ts ys in
        let new : alternative_bytes wd ts (with_symbols a ys) ≡ H ++ syms_bytes wd ts ys = with_bytes wd ts a ys n ∙ ap (λ (x : List ℕ). x ++ syms_bytes wd ts ys) (sym z) in
        let old : alternative_bytes wd ts a ≡ H ++ syms_bytes wd ts a.symbols = with_bytes wd ts a a.symbols refl ∙ ap (λ (x : List ℕ). x ++ syms_bytes wd ts a.symbols) (sym z) in
        let stored : store (store w d (syms_bytes wd ts ys)) d' (bytes bs) ≡ store w p (alternative_bytes wd ts (with_symbols a ys) ++ bytes bs) =
        store-append w d d' Y (bytes bs) (omega (arith, t.1)) ∙ behind_node w p d H (Y ++ bytes bs) l y ∙ ap (store w p) (sym (append_assoc H Y (bytes bs)) ∙ ap (λ (x : List ℕ). x ++ bytes bs) (sym new)) in (
          c ∙ t.0 ∙ g.0 ∙ ap ran stored,
          omega (
            arith,
            t.1,
            g.1,
            ap length new,
            ap length old,
            length-append H (syms_bytes wd ts ys),
            length-append H (syms_bytes wd ts a.symbols),
            length-append (alternative_bytes wd ts (with_symbols a ys)) (bytes bs),
            length-append (alternative_bytes wd ts a) (bytes cs),
          ),
        )

    told : (cs : List Alternative) → Each (AlternativeWithin four wd ts) cs → (w : List ℕ) → Agrees w → (p : ℕ) → Apart p e m.base (m.base + 24 * m.count) → Lies w p (bytes_of_each (alternative_bytes wd ts) cs) e
        → RunTold wd ts w p cs (up_to m wd e w p) (validate_alternatives G ps cs)
    unfolding bytes_of_each validate_alternatives
    told [] f w agree p a l = (up_to_end m wd e w p (omega (arith, l.end)) ∙ ap ran (sym (store-none w p)), refl)
    told (c ∷ cs) f w agree p a l =
        let H = head_bytes wd ts c in
        let S = syms_bytes wd ts c.symbols in
        let R = bytes_of_each (alternative_bytes wd ts) cs in
        let z : alternative_bytes wd ts c ++ R ≡ H ++ (S ++ R) = ap (λ (x : List ℕ). x ++ R) (with_bytes wd ts c c.symbols refl) ∙ append_assoc H S R in
        let x = lies_split w p e H (S ++ R) (rw z at l) in
        let d = p + length H in
        let y = lies_split w d e S R x.1 in
        let d' = d + length S in
        let k : d' ≤ e = omega (arith, y.1.end) in
        both_told c cs w agree p d d' H refl refl refl x.0 (check_condition G ps c.condition) (validate_symbols G ps c.symbols) (validate_alternatives G ps cs) refl
        (head_told c f.0 w agree p d (omega arith) x.0)
        (syms_told m wd e ts G ps c.symbols (syms_fit_lem wd ts four c.symbols 64 f.0.symbols) w agree d d' (off_part p d e (omega arith) (omega arith) a) k y.0)
        (λ ys n. told cs f.1 (store w d (syms_bytes wd ts ys)) (agrees_store w d (syms_bytes wd ts ys) (off_part p d (d + length (syms_bytes wd ts ys)) (omega arith) (omega arith) a) agree) d'
        (off_part p d' e (omega arith) (omega arith) a) (lies_kept w (store w d (syms_bytes wd ts ys)) d' e R (store-drop w d d' (syms_bytes wd ts ys) (omega arith)) y.1))

-- the run over an item's alternatives, with steps enough
pub alternatives_run : (m : Map) (wd : ℕ) (ts : List Text) (four : Bool) (G : Tree) (ps : List Text) (w : List ℕ)
    → ((n : Text) → meant (known_at m w (number ts n)) ≡ lookup G ps n)
    → (cs : List Alternative) → Each (AlternativeWithin four wd ts) cs
    → (n at e : ℕ) → e ≤ n + at
    → Apart at e m.base (m.base + 24 * m.count)
    → Lies w at (bytes_of_each (alternative_bytes wd ts) cs) e
    → RunTold wd ts w at cs (run_out m wd n w at e) (validate_alternatives G ps cs)
alternatives_run m wd ts four G ps w agree cs f n at e h a l =
    subst (λ (r : RunEnd). RunTold wd ts w at cs r (validate_alternatives G ps cs)) (enough m wd e n w at e (omega arith) h) (told m wd e ts G ps four cs f w agree at a l)
