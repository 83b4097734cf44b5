-- Alternatives of a macro's definition by parts: the command, the attributes, the condition, the symbols; and one with the arguments put in. Assumes nothing.
use mathlib.Core.Path.{◌≡◌, refl, sym, ap, ◌∙◌, subst}
use mathlib.Core.Bool.{Bool}
use mathlib.Core.List.{List, [], ◌∷◌, ◌++◌, append-nil, append_assoc}
use mathlib.Core.Option.{Option, none, some}
use Prim.Native.Nat.{ℕ, ◌+◌, ◌*◌, ◌≤◌}
use native.Mathlib.Omega.{arith}
use native.Mathlib.Nat.{mul-suc, mul_comm}
use borrow.Author.Tests.{lt-ltb}
use lib.ListN.{length, get_or, length-append}
use Rattle.octets.specs.Plain.Numbers.{le_at, le}
use Rattle.octets.specs.Plain.Runs.{part, Lies}
use Rattle.octets.proofs.LiesLaws.{lies_split, lies_from, lies_to, lies_append, lies_part}
use Rattle.octets.proofs.NumbersLaws.{length-le}
use Rattle.parse_tree.specs.Plain.Tree.{Text, Syms, Action, Attribute, Alternative, no_action, user, fallible, lookahead_action, lookbehind_action, count, conditions}
use Rattle.parse_tree.specs.Plain.Texts.{with_new}
use Rattle.parse_tree.specs.Plain.References.{texts_of_each, action_texts, attribute_texts, alternative_texts, syms_texts}
use Rattle.parse_tree.specs.Plain.WriteTape.{bytes_of_each}
use Rattle.parse_tree.specs.Working.Nodes.{span_bytes, node_bytes}
use Rattle.parse_tree.specs.Working.Encode.{action_code, action_text, alternative_node, attribute_node, attribute_bytes, condition_bytes, alternative_bytes, syms_bytes}
use Rattle.parse_tree.specs.Working.Within.{Each, ActionWithin, ArgumentWithin, AttributeWithin, AlternativeWithin}
use Rattle.parse_tree.specs.declared.syntax.Span.{Span}
use Rattle.parse_tree.proofs.FieldLaws.{byte_read, span_read}
use Rattle.passes.specs.Sizes.{alternative_fits, syms_fit}
use Rattle.passes.specs.Macros.{macro_expand_symbols, expand_alternative}
use Rattle.grades.specs.Annotations.{conditions_from, symbols_from}
use Rattle.grades.proofs.AlternativesMean.{alternative_read}
use Rattle.replacing.proofs.Growing.{Extends, new_append, new_there, extends_number}
use Rattle.parse_tree.proofs.NothingNew.{There}
use Rattle.macro_expand.proofs.ExpandTrees.{all_count}

-- ---- texts that are there
both_there : (ts xs ys : List Text) → There ts xs → There ts ys → There ts (xs ++ ys)
both_there ts [] ys h k = k
both_there ts (x ∷ xs) ys h k = (h.0, both_there ts xs ys h.1 k)

module _ (four : Bool) (wd : ℕ) (ts : List Text) where
  action_there : (a : Action) → ActionWithin four wd ts a → There ts (action_texts a)
  unfolding action_texts
  action_there no_action h = tt
  action_there (user t) h = (h.0, tt)
  action_there (fallible t) h = (h.0, tt)
  action_there lookahead_action h = tt
  action_there lookbehind_action h = tt

  attribute_there : (a : Attribute) → AttributeWithin four wd ts a → There ts (attribute_texts a)
  unfolding attribute_texts
  attribute_there a h = go a.argument h.1
    where
      go : (o : Option (Text × Text)) → ArgumentWithin four wd ts o → There ts (attribute_texts (record { id = a.id; argument = o }))
      go none k = (h.0.0, tt)
      go (some kv) k = (h.0.0, (k.0.0, (k.1.0, tt)))

  attributes_there : (xs : List Attribute) → Each (AttributeWithin four wd ts) xs → There ts (texts_of_each attribute_texts xs)
  unfolding texts_of_each
  attributes_there [] h = tt
  attributes_there (a ∷ xs) h = both_there ts (attribute_texts a) (texts_of_each attribute_texts xs) (attribute_there a h.0) (attributes_there xs h.1)

  attribute_long : (a : Attribute) → length (attribute_bytes wd ts a) ≡ 2 + 3 * wd
  unfolding attribute_bytes attribute_node node_bytes
  attribute_long a = go a.argument
    where
      go : (o : Option (Text × Text)) → length (attribute_bytes wd ts (record { id = a.id; argument = o })) ≡ 2 + 3 * wd
      go none = simp (length-append, length-le) (omega arith)
      go (some kv) = simp (length-append, length-le) (omega arith)

  attributes_long_lem : (xs : List Attribute) → length (bytes_of_each (attribute_bytes wd ts) xs) ≡ (2 + 3 * wd) * length xs
  unfolding bytes_of_each
  attributes_long_lem [] = omega arith
  attributes_long_lem (a ∷ xs) = omega (arith, length-append (attribute_bytes wd ts a) (bytes_of_each (attribute_bytes wd ts) xs), attribute_long a, attributes_long_lem xs, mul-suc (2 + 3 * wd) (length xs))

  -- ---- by more texts
  module _ (T : List Text) (p : Extends ts T) where
    action_later : (a : Action) → ActionWithin four wd ts a → action_text T a ≡ action_text ts a
    unfolding action_text
    action_later no_action h = refl
    action_later (user t) h = extends_number ts T t p h.0
    action_later (fallible t) h = extends_number ts T t p h.0
    action_later lookahead_action h = refl
    action_later lookbehind_action h = refl

    attribute_later : (a : Attribute) → AttributeWithin four wd ts a → attribute_bytes wd T a ≡ attribute_bytes wd ts a
    unfolding attribute_bytes attribute_node
    attribute_later a h = go a.argument h.1
      where
        go : (o : Option (Text × Text)) → ArgumentWithin four wd ts o → attribute_bytes wd T (record { id = a.id; argument = o }) ≡ attribute_bytes wd ts (record { id = a.id; argument = o })
        go none k = rw (extends_number ts T a.id p h.0.0) refl
        go (some kv) k = rw (extends_number ts T a.id p h.0.0, extends_number ts T kv.0 p k.0.0, extends_number ts T kv.1 p k.1.0) refl

    attributes_later : (xs : List Attribute) → Each (AttributeWithin four wd ts) xs → bytes_of_each (attribute_bytes wd T) xs ≡ bytes_of_each (attribute_bytes wd ts) xs
    unfolding bytes_of_each
    attributes_later [] h = refl
    attributes_later (a ∷ xs) h = rw (attribute_later a h.0, attributes_later xs h.1) refl

  -- ---- the command and attributes without a condition, at a span
  unfoldable pub tail_bytes : Alternative → List ℕ
  tail_bytes a = (action_code a.action ∷ (le wd (action_text ts a.action) ++ le 2 (count a.symbols))) ++ bytes_of_each (attribute_bytes wd ts) a.attributes

  unfoldable pub bare_bytes : Span → Alternative → List ℕ
  bare_bytes sp a = (18 ∷ (span_bytes sp ++ (length a.attributes ∷ []))) ++ ((0 ∷ []) ++ tail_bytes a)

  shuffled : (S R Q Y : List ℕ) (x : ℕ) → (18 ∷ (S ++ (x ∷ 0 ∷ R))) ++ (Q ++ Y) ≡ ((18 ∷ (S ++ (x ∷ []))) ++ ((0 ∷ []) ++ (R ++ Q))) ++ Y
  shuffled S R Q Y x =
      ap (λ (l : List ℕ). 18 ∷ l) (
      append_assoc S (x ∷ 0 ∷ R) (Q ++ Y)
      ∙ ap (λ (l : List ℕ). S ++ (x ∷ 0 ∷ l)) (sym (append_assoc R Q Y))
      ∙ sym (append_assoc S (x ∷ 0 ∷ (R ++ Q)) Y)
      ∙ ap (λ (l : List ℕ). l ++ Y) (sym (append_assoc S (x ∷ []) (0 ∷ (R ++ Q))))
      )

  -- theorem: the bytes of one with the arguments put in
  pub expanded_bytes : (T : List Text) → Extends ts T → (names : List Text) (args : Syms) (sp : Span) (a : Alternative) → AlternativeWithin four wd ts a
      → alternative_bytes wd T (expand_alternative sp names args a) ≡ bare_bytes sp a ++ syms_bytes wd T (macro_expand_symbols names args a.symbols)
  unfolding alternative_bytes alternative_node node_bytes bytes_of_each bare_bytes tail_bytes
  expanded_bytes T p names args sp a h =
      rw (action_later T p a.action h.action, attributes_later T p a.attributes h.attributes, all_count names args a.symbols)
      (shuffled (span_bytes sp) (action_code a.action ∷ (le wd (action_text ts a.action) ++ le 2 (count a.symbols))) (bytes_of_each (attribute_bytes wd ts) a.attributes)
      (syms_bytes wd T (macro_expand_symbols names args a.symbols)) (length a.attributes))

  -- theorem: its own texts are there
  pub expanded_texts : (U : List Text) → Extends ts U → (names : List Text) (args : Syms) (sp : Span) (a : Alternative) → AlternativeWithin four wd ts a
      → with_new U (alternative_texts (expand_alternative sp names args a)) ≡ with_new U (syms_texts (macro_expand_symbols names args a.symbols))
  unfolding alternative_texts texts_of_each
  expanded_texts U p names args sp a h =
      let ys = syms_texts (macro_expand_symbols names args a.symbols) in
      let qs = texts_of_each attribute_texts a.attributes in
      new_append U (action_texts a.action) (qs ++ ys)
      ∙ ap (λ (us : List Text). with_new us (qs ++ ys)) (new_there ts U (action_texts a.action) p (action_there a.action h.action))
      ∙ new_append U qs ys
      ∙ ap (λ (us : List Text). with_new us ys) (new_there ts U qs p (attributes_there a.attributes h.attributes))

  pub expanded_fits : (names : List Text) (args : Syms) (sp : Span) (a : Alternative) → AlternativeWithin four wd ts a
      → alternative_fits (expand_alternative sp names args a) ≡ syms_fit (macro_expand_symbols names args a.symbols) 64
  expanded_fits names args sp a h =
      rw (lt-ltb (length a.attributes) 256 h.few, all_count names args a.symbols, lt-ltb (count a.symbols) 65536 h.fewer) refl

  -- ---- what lies at p
  pub record Parted (w : List ℕ) (p e : ℕ) (a : Alternative) : Type 0 where
    pub attributes : part (p + 9) (p + 10) w ≡ length a.attributes ∷ []
    pub tail : part (p + 11) (conditions_from wd w p) w ≡ tail_bytes a
    pub asked : get_or w (p + 10) 0 ≡ length (conditions a.condition)
    pub condition : Lies w (conditions_from wd w p) (bytes_of_each (condition_bytes wd ts) (conditions a.condition) ++ syms_bytes wd ts a.symbols) e
    pub many : le_at 2 w (p + 12 + wd) ≡ count a.symbols
    pub symbols : Lies w (symbols_from wd w p) (syms_bytes wd ts a.symbols) e
    pub ahead : p + 14 + wd ≤ conditions_from wd w p
    pub behind : conditions_from wd w p ≤ symbols_from wd w p

  conditions-place : (w : List ℕ) (p m : ℕ) → (2 + 3 * wd) * get_or w (p + 9) 0 ≡ m → conditions_from wd w p ≡ p + 14 + wd + m
  unfolding conditions_from
  conditions-place w p m e = omega (arith, e, mul_comm (get_or w (p + 9) 0) (2 + 3 * wd))

  symbols_behind : (w : List ℕ) (p : ℕ) → conditions_from wd w p ≤ symbols_from wd w p
  unfolding symbols_from
  symbols_behind w p = omega arith

  pub parted : (w : List ℕ) (p e : ℕ) (a : Alternative) → AlternativeWithin four wd ts a → Lies w p (alternative_bytes wd ts a) e → Parted w p e a
  unfolding alternative_bytes alternative_node node_bytes tail_bytes
  parted w p e a h l =
      let nothing : List ℕ = [] in
      let AT = alternative_read four wd ts w p e a nothing h (subst (λ (b : List ℕ). Lies w p b e) (sym (append-nil (alternative_bytes wd ts a))) l) in
      let R : List ℕ = action_code a.action ∷ (le wd (action_text ts a.action) ++ le 2 (count a.symbols)) in
      let N : List ℕ = 18 ∷ (span_bytes a.span ++ (length a.attributes ∷ length (conditions a.condition) ∷ R)) in
      let Q = bytes_of_each (attribute_bytes wd ts) a.attributes in
      let K = bytes_of_each (condition_bytes wd ts) (conditions a.condition) in
      let s = lies_split w p e N (Q ++ (K ++ syms_bytes wd ts a.symbols)) l in
      let b = byte_read w _ p (p + 1) refl s.0 in
      let d = span_read w _ (p + 1) (p + 9) (omega arith) h.span b.1 in
      let f = byte_read w _ (p + 9) (p + 10) (omega arith) d.1 in
      let i = byte_read w _ (p + 10) (p + 11) (omega arith) f.1 in
      let t = lies_split w (p + length N) e Q (K ++ syms_bytes wd ts a.symbols) s.1 in
      let one = (lies_split w (p + 9) (p + length N) (length a.attributes ∷ []) (length (conditions a.condition) ∷ R) d.1).0 in
      let z1 : p + 9 + 1 ≡ p + 10 = omega arith in
      let n : p + length N ≡ p + 14 + wd = omega (arith, i.1.end, length-append (le wd (action_text ts a.action)) (le 2 (count a.symbols)), length-le wd (action_text ts a.action), length-le 2 (count a.symbols)) in
      let c : conditions_from wd w p ≡ p + length N + length Q = conditions-place w p (length Q) (ap (λ (j : ℕ). (2 + 3 * wd) * j) f.0 ∙ sym (attributes_long_lem a.attributes)) ∙ omega (arith, n) in
      record {
        attributes = lies_part w (p + 9) (p + 10) (length a.attributes ∷ []) (lies_to z1 one);
        tail = lies_part w (p + 11) (conditions_from wd w p) (R ++ Q) (lies_to (sym c) (lies_append i.1 t.0));
        asked = i.0;
        condition = lies_from (sym c) t.1;
        many = AT.symbols;
        symbols = lies_to (sym l.end) AT.place;
        ahead = omega (arith, c, n);
        behind = symbols_behind w p;
      }
