-- What is read of an alternative and of a nonterminal that stand in work: the attributes; whether it is annotated as Grades says. Assumes nothing.
use mathlib.Core.Path.{◌≡◌, refl, sym, ap, ◌∙◌}
use mathlib.Core.Bool.{Bool, true, false, ◌||◌}
use mathlib.Core.List.{List, [], ◌∷◌, ◌++◌}
use Prim.Native.Nat.{ℕ, suc, ◌+◌, ◌*◌, ◌^◌, ◌<◌, ◌≤◌}
use native.Mathlib.Omega.{arith}
use native.Mathlib.Nat.{mul_comm, mul-suc}
use borrow.Author.Tests.{ne_eqb}
use lib.ListN.{length, get_or, length-append}
use Rattle.std.specs.Prelude.{is_some}
use Rattle.octets.specs.Working.Choice.{pick}
use Rattle.octets.specs.Plain.Numbers.{le_at, le}
use Rattle.octets.specs.Plain.Runs.{Lies}
use Rattle.octets.proofs.LiesLaws.{lies_split, lies_from, lies_inside, le_read}
use Rattle.octets.proofs.NumbersLaws.{length-le}
use Rattle.parse_tree.specs.Plain.Tree.{Text, Condition, Alternative, Nonterminal, Source, extern, match, item, terminal, conditions, count}
use Rattle.parse_tree.specs.Plain.Texts.{number}
use Rattle.parse_tree.specs.declared.syntax.Span.{Span}
use Rattle.parse_tree.specs.Plain.WriteTape.{bytes_of_each}
use Rattle.parse_tree.specs.Working.Nodes.{node_bytes, span_bytes}
use Rattle.parse_tree.specs.Working.Encode.{action_code, action_text, alternative_node, condition_node, attribute_bytes, condition_bytes, syms_bytes, argument_bytes, alternative_bytes, item_bytes, source_code}
use Rattle.parse_tree.specs.Working.Within.{Each, AlternativeWithin, NonterminalWithin, SpanWithin}
use Rattle.parse_tree.proofs.FieldLaws.{byte_read, span_read}
use Rattle.parse_tree.proofs.SpanLaws.{length_span}
use Rattle.texts.specs.Table.{found_in}
use Rattle.passes.specs.Grades.{precedence, assoc, value_of, is_given, starts_annotated, annotated}
use Rattle.laws.proofs.Flat.{syms_fit_lem}
use Rattle.resolve.proofs.GrammarLaws.{Headed, headed, terminal_headed}
use Rattle.grades.specs.Skip.{skip_out}
use Rattle.grades.specs.Ids.{ids_in}
use Rattle.grades.specs.Annotations.{attributes_long, first_with, annotated_at, HeadInside, first_alternative, has_prec_attr, conditions_from, symbols_from, alternative_end}
use Rattle.grades.proofs.SkipMean.{skip-means}
use Rattle.grades.proofs.AnnotationsMean.{Value, attributes_long_lem, value_means, value_given}

module _ (four : Bool) (wd : ℕ) (ts : List Text) where
  -- ---- an alternative
  pub record AlternativeAt (w : List ℕ) (p : ℕ) (a : Alternative) : Type 0 where
    pub many : get_or w (p + 9) 0 ≡ length a.attributes
    pub lies : Lies w (p + 14 + wd) (bytes_of_each (attribute_bytes wd ts) a.attributes) (p + 14 + wd + length (bytes_of_each (attribute_bytes wd ts) a.attributes))
    pub inside : conditions_from wd w p ≤ length w
    pub symbols : le_at 2 w (p + 12 + wd) ≡ count a.symbols
    pub place : Lies w (symbols_from wd w p) (syms_bytes wd ts a.symbols) (p + length (alternative_bytes wd ts a))

  condition_long : (x : Condition) → length (condition_bytes wd ts x) ≡ 10 + 2 * wd
  unfolding condition_bytes condition_node node_bytes
  condition_long x = simp (length-append, length-le, length_span) (omega arith)

  conditions-long : (xs : List Condition) → length (bytes_of_each (condition_bytes wd ts) xs) ≡ (10 + 2 * wd) * length xs
  unfolding bytes_of_each
  conditions-long [] = omega arith
  conditions-long (x ∷ xs) =
      omega (arith, length-append (condition_bytes wd ts x) (bytes_of_each (condition_bytes wd ts) xs), condition_long x, conditions-long xs, mul-suc (10 + 2 * wd) (length xs))

  conditions_place : (w : List ℕ) (p m : ℕ) → attributes_long wd (get_or w (p + 9) 0) ≡ m → conditions_from wd w p ≡ p + 14 + wd + m
  unfolding conditions_from attributes_long
  conditions_place w p m e = omega (arith, e, mul_comm (get_or w (p + 9) 0) (2 + 3 * wd))

  symbols_place_lem : (w : List ℕ) (p m n : ℕ) → attributes_long wd (get_or w (p + 9) 0) ≡ m → (10 + 2 * wd) * get_or w (p + 10) 0 ≡ n → symbols_from wd w p ≡ p + 14 + wd + m + n
  unfolding symbols_from
  symbols_place_lem w p m n e f = omega (arith, conditions_place w p m e, f, mul_comm (get_or w (p + 10) 0) (10 + 2 * wd))

  pub alternative_read : (w : List ℕ) (p e : ℕ) (a : Alternative) (more : List ℕ) → AlternativeWithin four wd ts a → Lies w p (alternative_bytes wd ts a ++ more) e → AlternativeAt w p a
  unfolding alternative_bytes alternative_node node_bytes
  alternative_read w p e a more h l =
      let xs = bytes_of_each (attribute_bytes wd ts) a.attributes in
      let x : ℕ = action_text ts a.action in
      let c : ℕ = count a.symbols in
      let t : List ℕ = length (conditions a.condition) ∷ action_code a.action ∷ (le wd x ++ le 2 c) in
      let n : List ℕ = 18 ∷ (span_bytes a.span ++ (length a.attributes ∷ t)) in
      let k = lies_split w p e (alternative_bytes wd ts a) more l in
      let s = lies_split w p _ n (xs ++ (bytes_of_each (condition_bytes wd ts) (conditions a.condition) ++ syms_bytes wd ts a.symbols)) k.0 in
      let b = byte_read w _ p (p + 1) refl s.0 in
      let d = span_read w _ (p + 1) (p + 9) (omega arith) h.span b.1 in
      let f = byte_read w _ (p + 9) (p + 10) (omega arith) d.1 in
      let q : p + length n ≡ p + 14 + wd = omega (arith, length-append (span_bytes a.span) (length a.attributes ∷ t), length_span a.span, length-append (le wd x) (le 2 c), length-le wd x, length-le 2 c) in
      let g = lies_split w (p + 14 + wd) _ xs (bytes_of_each (condition_bytes wd ts) (conditions a.condition) ++ syms_bytes wd ts a.symbols) (lies_from q s.1) in
      let o = lies_inside w p _ (alternative_bytes wd ts a) (omega arith) k.0 in
      let m : p + 14 + wd + length xs ≤ length w = omega (arith, o, g.1.end, k.0.end) in
      let y : attributes_long wd (get_or w (p + 9) 0) ≡ length xs = ap (attributes_long wd) f.0 ∙ sym (attributes_long_lem four wd ts a.attributes) in
      let cs = bytes_of_each (condition_bytes wd ts) (conditions a.condition) in
      let d1 = byte_read w _ (p + 10) (p + 11) (omega arith) f.1 in
      let d2 = byte_read w _ (p + 11) (p + 12) (omega arith) d1.1 in
      let d3 = lies_split w (p + 12) _ (le wd x) (le 2 c) d2.1 in
      let z : p + 12 + length (le wd x) ≡ p + 12 + wd = omega (arith, length-le wd x) in
      let v = lies_split w (p + 14 + wd + length xs) _ cs (syms_bytes wd ts a.symbols) g.1 in
      let u : (10 + 2 * wd) * get_or w (p + 10) 0 ≡ length cs = ap (λ (i : ℕ). (10 + 2 * wd) * i) d1.0 ∙ sym (conditions-long (conditions a.condition)) in
      record {
        many = f.0;
        lies = g.0;
        inside = omega (arith, m, conditions_place w p (length xs) y);
        symbols = le_read 2 w (p + 12 + wd) c _ h.fewer (lies_from z d3.1);
        place = lies_from (sym (symbols_place_lem w p (length xs) (length cs) y u)) v.1;
      }

  -- theorem: the place behind it
  pub end_means : (w : List ℕ) (p e d : ℕ) (a : Alternative) (more : List ℕ) → AlternativeWithin four wd ts a → Lies w p (alternative_bytes wd ts a ++ more) d → p + length (alternative_bytes wd ts a) ≤ e
      → alternative_end wd w p e ≡ p + length (alternative_bytes wd ts a)
  unfolding alternative_end
  end_means w p e d a more h l i =
      let r = alternative_read w p d a more h l in
      ap (skip_out wd e w (symbols_from wd w p) e) r.symbols
      ∙ skip-means wd ts a.symbols (syms_fit_lem wd ts four a.symbols 64 h.symbols) w (symbols_from wd w p) (p + length (alternative_bytes wd ts a)) e i r.place

  -- what the two indices say of it
  pub record Annotations (w : List ℕ) (p : ℕ) (a : Alternative) : Type 0 where
    pub many : get_or w (p + 9) 0 ≡ length a.attributes
    pub level : Value four wd ts w (p + 14 + wd) precedence a.attributes
    pub side : Value four wd ts w (p + 14 + wd) assoc a.attributes

  pub alternative_means : (w : List ℕ) (p e : ℕ) (a : Alternative) (more : List ℕ) → AlternativeWithin four wd ts a → Lies w p (alternative_bytes wd ts a ++ more) e → Annotations w p a
  alternative_means w p e a more h l =
      let r = alternative_read w p e a more h l in
      record {
        many = r.many;
        level = value_means four wd ts w (p + 14 + wd) _ precedence a.attributes h.attributes r.lies;
        side = value_means four wd ts w (p + 14 + wd) _ assoc a.attributes h.attributes r.lies;
      }

  pick-or : (b c : Bool) → pick b true c ≡ (b || c)
  unfolding pick
  pick-or true c = refl
  pick-or false c = refl

  pub annotated-means : (w : List ℕ) (p : ℕ) (a : Alternative) → Annotations w p a → annotated_at wd (ids_in ts) w p ≡ (is_given (value_of precedence a.attributes) || is_given (value_of assoc a.attributes))
  unfolding annotated_at
  annotated-means w p a r =
      let i : is_some (first_with wd (found_in ts precedence) w (p + 14 + wd) (length a.attributes)) ≡ is_given (value_of precedence a.attributes) =
      ap is_some r.level.index ∙ value_given four wd ts w (p + 14 + wd) precedence a.attributes r.level in
      let j : is_some (first_with wd (found_in ts assoc) w (p + 14 + wd) (length a.attributes)) ≡ is_given (value_of assoc a.attributes) =
      ap is_some r.side.index ∙ value_given four wd ts w (p + 14 + wd) assoc a.attributes r.side in
      rw (r.many, i, j) (pick-or (is_given (value_of precedence a.attributes)) (is_given (value_of assoc a.attributes)))

  -- ---- an item
  argument-long : (x : Text) → length (argument_bytes wd ts x) ≡ 1 + wd
  unfolding argument_bytes node_bytes
  argument-long x = omega (arith, length-le wd (number ts x))

  arguments_long : (xs : List Text) → length (bytes_of_each (argument_bytes wd ts) xs) ≡ (1 + wd) * length xs
  unfolding bytes_of_each
  arguments_long [] = omega arith
  arguments_long (x ∷ xs) =
      omega (arith, length-append (argument_bytes wd ts x) (bytes_of_each (argument_bytes wd ts) xs), argument-long x, arguments_long xs, mul-suc (1 + wd) (length xs))

  pub first_means : (w : List ℕ) (at e : ℕ) (d : Nonterminal) → Headed w wd ts at d e → first_alternative wd w at ≡ at + 13 + wd + length (bytes_of_each (argument_bytes wd ts) d.args)
  unfolding first_alternative
  first_means w at e d h = ap (λ (k : ℕ). at + 13 + wd + (1 + wd) * k) h.args ∙ ap (λ (k : ℕ). at + 13 + wd + k) (sym (arguments_long d.args))

  no_alternative : (w : List ℕ) (at : ℕ) → get_or w at 0 ≡ 16 → le_at 2 w (at + 11 + wd) ≡ 0 → has_prec_attr wd (ids_in ts) w at ≡ false
  unfolding has_prec_attr pick
  no_alternative w at h k = cc

  an_alternative : (w : List ℕ) (at n p : ℕ) → get_or w at 0 ≡ 16 → le_at 2 w (at + 11 + wd) ≡ suc n → first_alternative wd w at ≡ p → has_prec_attr wd (ids_in ts) w at ≡ annotated_at wd (ids_in ts) w p
  unfolding has_prec_attr pick
  an_alternative w at n p h k l = cc (ne_eqb (le_at 2 w (at + 11 + wd)) 0 (λ z. absurd (omega (arith, k, z))))

  -- theorem: it is annotated as Grades says
  pub has-means : (w : List ℕ) (at e : ℕ) (d : Nonterminal) → NonterminalWithin four wd ts d → Lies w at (item_bytes wd ts (item d)) e → has_prec_attr wd (ids_in ts) w at ≡ annotated d
  unfolding bytes_of_each
  has-means w at e d h l = let g = headed four w wd ts at d e h l in go d.alternatives h.alternatives g.many g.alternatives g
    where
      go : (xs : List Alternative) → Each (AlternativeWithin four wd ts) xs → le_at 2 w (at + 11 + wd) ≡ length xs
          → Lies w (at + 13 + wd + length (bytes_of_each (argument_bytes wd ts) d.args)) (bytes_of_each (alternative_bytes wd ts) xs) e → Headed w wd ts at d e → has_prec_attr wd (ids_in ts) w at ≡ starts_annotated xs
      go [] y k m g = no_alternative w at g.code k
      go (a ∷ rest) y k m g =
          an_alternative w at (length rest) _ g.code k (first_means w at e d g)
          ∙ annotated-means w _ a (alternative_means w _ e a (bytes_of_each (alternative_bytes wd ts) rest) y.0 m)

  -- and what the code asks of work holds
  pub head_inside : (w : List ℕ) (at e : ℕ) (d : Nonterminal) → NonterminalWithin four wd ts d → Lies w at (item_bytes wd ts (item d)) e → at + 16 ≤ length w → HeadInside wd w at
  unfolding bytes_of_each
  head_inside w at e d h l i = let g = headed four w wd ts at d e h l in record { head = i; first = λ c z. go d.alternatives h.alternatives g.many g.alternatives g z }
    where
      go : (xs : List Alternative) → Each (AlternativeWithin four wd ts) xs → le_at 2 w (at + 11 + wd) ≡ length xs
          → Lies w (at + 13 + wd + length (bytes_of_each (argument_bytes wd ts) d.args)) (bytes_of_each (alternative_bytes wd ts) xs) e → Headed w wd ts at d e
          → (le_at 2 w (at + 11 + wd) ≡ 0 → ⊥) → conditions_from wd w (first_alternative wd w at) ≤ length w
      go [] y k m g z = absurd (z k)
      go (a ∷ rest) y k m g z = rw (first_means w at e d g) (alternative_read w _ e a (bytes_of_each (alternative_bytes wd ts) rest) y.0 m).inside

  -- theorem: a terminal is not
  source_other : (o : Source) → source_code o ≡ 16 → ⊥
  source_other extern h = absurd (omega arith)
  source_other match h = absurd (omega arith)

  other_item : (w : List ℕ) (at : ℕ) → (get_or w at 0 ≡ 16 → ⊥) → has_prec_attr wd (ids_in ts) w at ≡ false
  unfolding has_prec_attr pick
  other_item w at h = cc (ne_eqb (get_or w at 0) 16 h)

  -- theorem
  pub terminal_means : (w : List ℕ) (at e : ℕ) (s : Span) (o : Source) (x : Text) → SpanWithin s → number ts x < 256 ^ wd → Lies w at (item_bytes wd ts (terminal s o x)) e
      → has_prec_attr wd (ids_in ts) w at ≡ false
  terminal_means w at e s o x h k l = let z = terminal_headed four w wd ts at s o x e h k l in other_item w at (λ c. source_other o (sym z.code ∙ c))
