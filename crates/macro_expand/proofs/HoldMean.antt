-- What counting the alternatives that hold means: none is refused, or the first that is. Assumes nothing.
use mathlib.Core.Path.{◌≡◌, refl, sym, ap, ◌∙◌, subst}
use mathlib.Core.Bool.{Bool, true, false, cond}
use mathlib.Core.List.{List, [], ◌∷◌}
use Prim.Native.Nat.{ℕ, suc, ◌+◌, ◌≤◌}
use native.Mathlib.Omega.{arith}
use borrow.Author.Tests.{lt-leb}
use lib.Dec.{eqb, leb}
use lib.ListN.{length, get_or}
use Rattle.octets.specs.Working.Choice.{pick}
use Rattle.octets.specs.Plain.Runs.{Lies}
use Rattle.octets.proofs.LiesLaws.{lies_split}
use Rattle.parse_tree.specs.Plain.Tree.{Text, Syms, Alternative}
use Rattle.parse_tree.specs.Plain.WriteTape.{bytes_of_each}
use Rattle.parse_tree.specs.Working.Nodes.{span_in}
use Rattle.parse_tree.specs.Working.Encode.{alternative_bytes}
use Rattle.parse_tree.specs.Working.Within.{Each, AlternativeWithin}
use Rattle.parse_tree.specs.declared.syntax.Span.{Span}
use Rattle.texts.specs.Table.{texts}
use Rattle.passes.specs.Outcome.{Outcome, yes, no}
use Rattle.passes.specs.Macros.{evaluate_cond, expand_alternative, expand_alternatives}
use Rattle.grades.specs.Annotations.{conditions_from, alternative_end}
use Rattle.grades.proofs.AlternativesMean.{end_means}
use Rattle.replacing.specs.Trees.{renamed_all}
use Rattle.expander.specs.declared.Ground.{Ground}
use Rattle.appending.specs.declared.Appended.{Appended}
use Rattle.macro_expand.specs.declared.arguments.Call.{Call}
use Rattle.std.specs.Prelude.{Option, Some, None}
use Rattle.std.specs.Prelude.{Result, Ok, Err}
use Rattle.macro_expand.specs.declared.arguments.NotLiteral.{NotLiteral}
use Rattle.macro_expand.specs.Arguments.{judged_at, holds_at, hold_from}
use Rattle.macro_expand.specs.PutIn.{Framed}
use Rattle.macro_expand.specs.Alternatives.{held}
use Rattle.macro_expand.proofs.AlternativesTrees.{Parted, parted}
use Rattle.macro_expand.proofs.ConditionsMean.{told_by, holds-means}

module _ (s w : List ℕ) (g : Ground) (n lim : ℕ) (c : Call) (v : Appended) (ps : List ℕ) (names : List Text) (args : Syms) (F : Framed s w g n lim c v ps names args) (sp : Span) where
  abbrev ts : List Text
  ts = texts s w g.m

  abbrev wd : ℕ
  wd = g.width.bytes

  abbrev xs : Syms
  xs = renamed_all args

  -- k were counted before
  abbrev pub Tells : List Alternative → ℕ → Result ℕ NotLiteral → Type 0
  Tells as' k (Ok m) = (expand_alternatives sp names (renamed_all args) as' ≡ yes (held sp names (renamed_all args) as')) × (m ≡ k + length (held sp names (renamed_all args) as'))
  Tells as' k (Err r) = (expand_alternatives sp names (renamed_all args) as' ≡ no 17 (span_in w (r.at + 1))) × (r.at ≤ c.end)

  -- the first of them
  module _ (a : Alternative) (rest : List Alternative) (k p : ℕ) where
    held-is : (b : Bool) → evaluate_cond names xs a.condition ≡ yes b → held sp names xs (a ∷ rest) ≡ cond b (expand_alternative sp names xs a ∷ held sp names xs rest) (held sp names xs rest)
    unfolding held
    held-is b e = ap (λ (o : Outcome Bool). elim o [ yes t ↦ cond t (expand_alternative sp names xs a ∷ held sp names xs rest) (held sp names xs rest) | no i q ↦ held sp names xs rest ]) e

    all_is : (b : Bool) → evaluate_cond names xs a.condition ≡ yes b → expand_alternatives sp names xs rest ≡ yes (held sp names xs rest) → expand_alternatives sp names xs (a ∷ rest) ≡ yes (held sp names xs (a ∷ rest))
    unfolding expand_alternatives
    all_is b e x =
        let f : expand_alternatives sp names xs (a ∷ rest) ≡ yes (cond b (expand_alternative sp names xs a ∷ held sp names xs rest) (held sp names xs rest)) = rw (e, x) refl in
        f ∙ ap (λ (l : List Alternative). yes l) (sym (held-is b e))

    go_is : (b : Bool) → evaluate_cond names xs a.condition ≡ yes b → (u : Result ℕ NotLiteral) → Tells rest (pick b (k + 1) k) u → Tells (a ∷ rest) k u
    unfolding expand_alternatives pick
    go_is true e (Ok m) (x, y) = (all_is true e x, omega (arith, ap (length {A = Alternative}) (held-is true e)))
    go_is false e (Ok m) (x, y) = (all_is false e x, omega (arith, ap (length {A = Alternative}) (held-is false e)))
    go_is b e (Err q) (x, y) = (rw (e, x) refl, y)

    go_refused : (r : NotLiteral) → evaluate_cond names xs a.condition ≡ no 17 (span_in w (r.at + 1)) → r.at ≤ c.end → Tells (a ∷ rest) k (Err r)
    unfolding expand_alternatives
    go_refused r e l = (rw e refl, l)

  turn : (i p k e : ℕ) → leb c.end p ≡ false → alternative_end wd w p c.end ≡ e
      → hold_from g c w (suc i) p k ≡ elim (holds_at g c w p) [
        | Ok b ↦ hold_from g c w i e (pick b (k + 1) k)
        | Err r ↦ Err r
      ]
  unfolding hold_from pick
  turn i p k e z y =
      let X : ℕ → Result ℕ NotLiteral = λ j. elim (holds_at g c w p) [ Ok b ↦ hold_from g c w i j (pick b (k + 1) k) | Err r ↦ Err r ] in
      ap (λ (b : Bool). pick b (Ok k) (X (alternative_end wd w p c.end))) z ∙ ap X y

  -- what is refused begins before the definition ends
  abbrev Before : Result Bool NotLiteral → Type 0
  Before (Ok b) = Unit {0}
  Before (Err r) = r.at ≤ c.end

  refused_at : (p : ℕ) → conditions_from wd w p ≤ c.end → Before (holds_at g c w p)
  unfolding holds_at pick
  refused_at p l = go (eqb (get_or w (p + 10) 0) 0) (judged_at g c w (conditions_from wd w p))
    where
      go : (b : Bool) (o : Option Bool) → Before (pick b (Ok true) (elim o [ Some t ↦ Ok t | None ↦ Err (record { at = conditions_from wd w p }) ]))
      go true o = tt
      go false (Some t) = tt
      go false None = l

  -- theorem: of alternatives that stand one behind another
  pub hold_means : (as' : List Alternative) (p e k : ℕ) (four : Bool) → Each (AlternativeWithin four wd ts) as' → Lies w p (bytes_of_each (alternative_bytes wd ts) as') e → e ≤ c.end
      → Tells as' k (hold_from g c w (length as') p k)
  unfolding bytes_of_each hold_from pick expand_alternatives held
  hold_means [] p e k four W l u = (refl, omega arith)
  hold_means (a ∷ rest) p e k four W l u =
      let b = lies_split w p e (alternative_bytes wd ts a) (bytes_of_each (alternative_bytes wd ts) rest) l in
      let D = parted four wd ts w p (p + length (alternative_bytes wd ts a)) a W.0 b.0 in
      let z = lt-leb c.end p (omega (arith, D.ahead, D.condition.end, b.1.end)) in
      let q = end_means four wd ts w p c.end e a (bytes_of_each (alternative_bytes wd ts) rest) W.0 l (omega (arith, b.1.end)) in
      let m = holds-means s w g n lim c v ps names args F p (p + length (alternative_bytes wd ts a)) a four W.0 D (omega (arith, b.1.end)) in
      subst (Tells (a ∷ rest) k) (sym (turn (length rest) p k (p + length (alternative_bytes wd ts a)) z q)) (go (holds_at g c w p) m (refused_at p (omega (arith, D.condition.end, condition_room four D, b.1.end))) (λ j. hold_means rest (p + length (alternative_bytes wd ts a)) e j four W.1 b.1 u))
    where
      condition_room : (f : Bool) → Parted f wd ts w p (p + length (alternative_bytes wd ts a)) a → conditions_from wd w p ≤ p + length (alternative_bytes wd ts a)
      condition_room f D = omega (arith, D.condition.end)

      go : (j : Result Bool NotLiteral) → evaluate_cond names xs a.condition ≡ told_by w j → Before j
          → ((i : ℕ) → Tells rest i (hold_from g c w (length rest) (p + length (alternative_bytes wd ts a)) i))
          → Tells (a ∷ rest) k (elim j [
            | Ok b ↦ hold_from g c w (length rest) (p + length (alternative_bytes wd ts a)) (pick b (k + 1) k)
            | Err r ↦ Err r
          ])
      go (Ok b) m o f = go_is a rest k p b m (hold_from g c w (length rest) (p + length (alternative_bytes wd ts a)) (pick b (k + 1) k)) (f (pick b (k + 1) k))
      go (Err r) m o f = go_refused a rest k p r m o

-- those that hold are no more than there are
pub held-few : (sp : Span) (names : List Text) (args : Syms) (as' : List Alternative) → length (held sp names args as') ≤ length as'
unfolding held
held-few sp names args [] = omega arith
held-few sp names args (a ∷ rest) = go (evaluate_cond names args a.condition) (held-few sp names args rest)
  where
    go : (o : Outcome Bool) → length (held sp names args rest) ≤ length rest
        → length {A = Alternative} (elim o [ yes b ↦ cond b (expand_alternative sp names args a ∷ held sp names args rest) (held sp names args rest) | no k q ↦ held sp names args rest ]) ≤ suc (length rest)
    go (yes true) h = omega arith
    go (yes false) h = omega arith
    go (no k q) h = omega arith
