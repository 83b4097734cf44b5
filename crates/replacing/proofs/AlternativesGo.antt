-- The flat run over attributes, conditions and alternatives: what it writes are the alternatives renamed, and it enters the symbols that are expanded. Assumes nothing.
use mathlib.Core.Path.{◌≡◌, refl, sym, ap, ◌∙◌, subst}
use mathlib.Core.Bool.{Bool, true, false, cond}
use mathlib.Core.List.{List, [], ◌∷◌, ◌++◌}
use mathlib.Core.Option.{Option, none, some}
use Prim.Native.Nat.{ℕ, zero, suc, ◌≤◌}
use native.Mathlib.Omega.{arith}
use lib.Dec.{leb}
use lib.ListN.{length}
use Rattle.std.specs.Prelude.{Some}
use Rattle.octets.specs.Plain.Numbers.{Bytes}
use Rattle.octets.specs.Plain.Runs.{same_as}
use Rattle.parse_tree.specs.Plain.Tree.{Text, Sym, Syms, Action, Attribute, Condition, Alternative, no_action, user, fallible, lookahead_action, lookbehind_action, nil, cons, count, syms_of, conditions}
use Rattle.parse_tree.specs.Plain.Texts.{has, number, distinct}
use Rattle.parse_tree.specs.Plain.Display.{print}
use Rattle.parse_tree.specs.Working.Nodes.{node_bytes}
use Rattle.parse_tree.specs.Working.Places.{alternatives_place, attributes_place, conditions_place}
use Rattle.parse_tree.specs.Working.Questions.{defined, alternative_defined, suits}
use Rattle.parse_tree.specs.Plain.Reading.{Reading, got, times}
use Rattle.parse_tree.specs.Working.Operands.{action_from, attribute_of, condition_of, alternative_of}
use Rattle.parse_tree.specs.Working.Decode.{read_sym, read_attribute, read_condition, alternative_parts, read_alternative}
use Rattle.parse_tree.specs.Plain.ReadTape.{first_of}
use Rattle.parse_tree.specs.Working.Encode.{action_text, attribute_node, condition_node, alternative_node, syms_bytes, attribute_bytes, condition_bytes, alternative_bytes}
use Rattle.parse_tree.specs.Plain.WriteTape.{bytes_of_each}
use Rattle.parse_tree.specs.Plain.References.{texts_of_each, syms_texts, action_texts, attribute_texts, condition_texts, alternative_texts}
use Rattle.parse_tree.specs.Working.Within.{ActionWithin, ArgumentWithin, ConditionWithin}
use Rattle.parse_tree.specs.declared.syntax.Alternative.{Alternative as AlternativeNode}
use Rattle.parse_tree.specs.declared.syntax.Node.{Node}
use Rattle.parse_tree.proofs.TextLaws.{both}
use Rattle.parse_tree.proofs.ReadingLaws.{then-got, got_as}
use Rattle.parse_tree.proofs.Asking.{Passes}
use Rattle.parse_tree.proofs.Expecting.{alternative_wanted, attribute_wanted, condition_wanted}
use Rattle.parse_tree.proofs.SymLists.{count-syms}
use Rattle.parse_tree.proofs.FromCommands.{attribute_within, condition_within, action_within, one_condition}
use Rattle.passes.specs.Outcome.{with_symbols}
use Rattle.replacing.specs.Trees.{renamed_all, expanded_all, renamed_alternatives, expanded_alternatives}
use Rattle.replacing.specs.Prints.{sym_at}
use Rattle.replacing.specs.Runs.{plain, is_macro}
use Rattle.replacing.proofs.Readings.{Standing, stands_then, times-length}
use Rattle.replacing.proofs.Going.{Goes, goes_none, goes_then, goes_as, copy_goes}
use Rattle.replacing.proofs.Growing.{Extends, extends_refl, extends_number}
use Rattle.parse_tree.proofs.NothingNew.{There, action_there, attribute_there}
use Rattle.replacing.proofs.SymbolsGo.{syms_go}

-- renaming keeps how many there are
count-renamed : (xs : Syms) → count (renamed_all xs) ≡ count xs
unfolding count renamed_all
count-renamed nil = refl
count-renamed (cons x xs) = ap suc (count-renamed xs)

-- at most one condition
first_all : (cs : List Condition) → length cs ≤ 1 → conditions (first_of cs) ≡ cs
first_all [] l = refl
first_all (c ∷ []) l = refl
first_all (c ∷ e ∷ cs) l = absurd (omega arith)

-- ---- commands by the numbers of later texts
module _ (four : Bool) (w : ℕ) (ts T : List Text) (p : Extends ts T) where
  action_later : (a : Action) → ActionWithin four w ts a → action_text T a ≡ action_text ts a
  unfolding action_text
  action_later no_action u = refl
  action_later (user t) u = extends_number ts T t p u.0
  action_later (fallible t) u = extends_number ts T t p u.0
  action_later lookahead_action u = refl
  action_later lookbehind_action u = refl

  attribute_later : (i : Text) (o : Option (Text × Text)) → has i ts ≡ true → ArgumentWithin four w ts o → attribute_node T (record { id = i; argument = o }) ≡ attribute_node ts (record { id = i; argument = o })
  unfolding attribute_node
  attribute_later i none u v = rw (extends_number ts T i p u) refl
  attribute_later i (some kv) u v = rw (extends_number ts T i p u, extends_number ts T kv.0 p v.0.0, extends_number ts T kv.1 p v.1.0) refl

  condition_later : (c : Condition) → ConditionWithin four w ts c → condition_node T c ≡ condition_node ts c
  unfolding condition_node
  condition_later c u = rw (extends_number ts T c.lhs p u.lhs.0, extends_number ts T c.rhs p u.rhs.0) refl

module _ (four : Bool) (w : ℕ) (s : List ℕ) (ts : List Text) (b : Bytes s) (d : distinct ts ≡ true)
    (same : ℕ → ℕ → Bool) (text_at : ℕ → Option ℕ) (same_is : (p q : ℕ) → same p q ≡ same_as (print (sym_at four w s ts p)) (print (sym_at four w s ts q)))
    (text_is_lem : (p : ℕ) → text_at p ≡ cond (has (print (sym_at four w s ts p)) ts) (some (number ts (print (sym_at four w s ts p)))) none) where
  abbrev G : ℕ → ℕ → List Sym → List Text → (List Text → List ℕ) → Type 0
  G a e xs us f = Goes four w s ts b d same text_at same_is text_is_lem a e xs us f

  abbrev stand : ℕ → ℕ → Node → Type 0
  stand a c n = Standing four w s ts a c n

  none_goes : (a : ℕ) → G a a [] [] (λ T. [])
  none_goes a = goes_none four w s ts b d same text_at same_is text_is_lem a

  both_go : (a c e : ℕ) (xs ys : List Sym) (us vs : List Text) (f g : List Text → List ℕ) → G a c xs us f → G c e ys vs g → G a e (xs ++ ys) (us ++ vs) (λ T. f T ++ g T)
  both_go a c e xs ys us vs f g p q = goes_then four w s ts b d same text_at same_is text_is_lem a c e xs ys us vs f g p q

  -- a command that is copied, its bytes by the numbers of later texts
  pub one_goes : (a c : ℕ) (n : Node) (us : List Text) (m : List Text → Node) → stand a c n → plain (Some n) ≡ true → is_macro (Some n) ≡ false → There ts us → ((T : List Text) → Extends ts T → m T ≡ n) → G a c [] us (λ T. node_bytes w (m T))
  one_goes a c n us m h z y t f =
      goes_as four w s ts b d same text_at same_is text_is_lem a c [] us (λ T. node_bytes w n) (λ T. node_bytes w (m T)) (λ T p. ap (node_bytes w) (sym (f T p)))
      (copy_goes four w s ts b d same text_at same_is text_is_lem a c n us h z y t)

  -- several with no symbols
  pub each_goes : {A : Type 0} (f : ℕ → Reading A) (texts : A → List Text) (bytes : List Text → A → List ℕ) → ((a : ℕ) (x : A) (e : ℕ) → f a ≡ got x e → G a e [] (texts x) (λ T. bytes T x))
      → (n a : ℕ) (xs : List A) (e : ℕ) → times f n a ≡ got xs e → G a e [] (texts_of_each texts xs) (λ T. bytes_of_each (bytes T) xs)
  unfolding times texts_of_each bytes_of_each
  each_goes f texts bytes g zero a xs e p = got_as (λ zs m. G a m [] (texts_of_each texts zs) (λ T. bytes_of_each (bytes T) zs)) p (none_goes a)
  each_goes f texts bytes g (suc n) a xs e p =
      let h = then-got (f a) _ p in
      let i = then-got (times f n h.mid) _ h.second in
      got_as (λ zs m. G a m [] (texts_of_each texts zs) (λ T. bytes_of_each (bytes T) zs)) i.second
      (both_go a h.mid i.mid [] [] (texts h.value) (texts_of_each texts i.value) (λ T. bytes T h.value) (λ T. bytes_of_each (bytes T) i.value)
      (g a h.value h.mid h.first) (each_goes f texts bytes g n h.mid i.value i.mid i.first))

  -- ---- one command each
  attribute_goes : (a : ℕ) (x : Attribute) (e : ℕ) → read_attribute four w s ts a ≡ got x e → G a e [] (attribute_texts x) (λ T. attribute_bytes w T x)
  unfolding read_attribute attribute_bytes plain attribute_of is_macro
  attribute_goes a x e p =
      stands_then four w s ts attributes_place 1 b _ a p (λ n c h q.
      attribute_wanted (stand a c) a c x e _ n h q (λ k i r.
      let (u, v) = attribute_within four w ts d k i.passes in
      got_as (λ z m. G a m [] (attribute_texts z) (λ T. node_bytes w (attribute_node T z))) r
      (one_goes a c (Node.Attribute k) (attribute_texts (attribute_of ts k)) (λ T. attribute_node T (attribute_of ts k)) i refl refl
      (attribute_there four w ts (attribute_of ts k).id (attribute_of ts k).argument u.0 u.1)
      (λ T m. attribute_later four w ts T m (attribute_of ts k).id (attribute_of ts k).argument u.0.0 u.1 ∙ v))))

  condition_goes : (a : ℕ) (x : Condition) (e : ℕ) → read_condition four w s ts a ≡ got x e → G a e [] (condition_texts x) (λ T. condition_bytes w T x)
  unfolding read_condition condition_bytes plain condition_texts is_macro
  condition_goes a x e p =
      stands_then four w s ts conditions_place 1 b _ a p (λ n c h q.
      condition_wanted (stand a c) a c x e _ n h q (λ k i r.
      let (u, v) = condition_within four w ts d k i.passes in
      got_as (λ z m. G a m [] (condition_texts z) (λ T. node_bytes w (condition_node T z))) r
      (one_goes a c (Node.Condition k) (condition_texts (condition_of ts k)) (λ T. condition_node T (condition_of ts k)) i refl refl (u.lhs.0, (u.rhs.0, tt))
      (λ T m. condition_later four w ts T m (condition_of ts k) u ∙ v))))

  -- ---- alternatives
  abbrev replaced_alternative : Alternative → Alternative
  replaced_alternative x = with_symbols x (renamed_all x.symbols)

  alternative_node_lem : (T : List Text) → Extends ts T → (n : AlternativeNode) (as' : List Attribute) (o : Option Condition) (xs : Syms) → Passes four w ts (Node.Alternative n)
      → length as' ≡ n.attributes → length (conditions o) ≡ n.conditions → count xs ≡ n.symbols → There ts (action_texts (action_from ts n.action n.text.0))
      × (alternative_node T (replaced_alternative (alternative_of ts n as' o xs)) ≡ Node.Alternative n)
  unfolding alternative_of alternative_node defined alternative_defined suits
  alternative_node_lem T m n as' o xs p i j k =
      let (u, v, x) = action_within four w ts d n.action n.text.0 p.fits.4 (both (leb n.conditions 1) _ p.known).1 p.apt in (
        action_there four w ts (action_from ts n.action n.text.0) u,
        rw (i, j, count-renamed xs, k, v, action_later four w ts T m (action_from ts n.action n.text.0) u, x),
      )

  parts_with : (k : AlternativeNode) (a c : ℕ) (as' : List Attribute) (m₁ : ℕ) (cs : List Condition) (m₂ : ℕ) (xs : List Sym) (e : ℕ) → stand a c (Node.Alternative k)
      → times (read_attribute four w s ts) k.attributes c ≡ got as' m₁ → times (read_condition four w s ts) k.conditions m₁ ≡ got cs m₂ → times (read_sym four w s ts 64) k.symbols m₂ ≡ got xs e
      → (y : Alternative) → alternative_of ts k as' (first_of cs) (syms_of xs) ≡ y
      → G a e (expanded_all y.symbols) (alternative_texts (replaced_alternative y)) (λ T. alternative_bytes w T (replaced_alternative y))
  unfolding alternative_texts alternative_bytes plain alternative_of is_macro
  parts_with k a c as' m₁ cs m₂ xs e h p₁ p₂ p₃ y is =
      let n₁ = times-length (read_attribute four w s ts) k.attributes c as' m₁ p₁ in
      let n₂ = times-length (read_condition four w s ts) k.conditions m₁ cs m₂ p₂ in
      let n₃ : count (syms_of xs) ≡ k.symbols = count-syms xs ∙ times-length (read_sym four w s ts 64) k.symbols m₂ xs e p₃ in
      let o = one_condition four w ts d k h.passes in
      let q : conditions (first_of cs) ≡ cs = first_all cs (omega arith) in
      let z = alternative_of ts k as' (first_of cs) (syms_of xs) in
      let node : (T : List Text) → Extends ts T → _ = λ T m. alternative_node_lem T m k as' (first_of cs) (syms_of xs) h.passes n₁ (ap length q ∙ n₂) n₃ in
      let ys = renamed_all (syms_of xs) in
      subst (λ (v : Alternative). G a e (expanded_all v.symbols) (alternative_texts (replaced_alternative v)) (λ T. alternative_bytes w T (replaced_alternative v))) is
      (both_go a c e [] (expanded_all (syms_of xs)) (action_texts (action_from ts k.action k.text.0)) (texts_of_each attribute_texts as' ++ (texts_of_each condition_texts (conditions (first_of cs)) ++ syms_texts ys))
      (λ T. node_bytes w (alternative_node T (replaced_alternative z)))
      (λ T. bytes_of_each (attribute_bytes w T) as' ++ (bytes_of_each (condition_bytes w T) (conditions (first_of cs)) ++ syms_bytes w T ys))
      (one_goes a c (Node.Alternative k) (action_texts (action_from ts k.action k.text.0)) (λ T. alternative_node T (replaced_alternative z)) h refl refl (node ts (extends_refl ts)).0 (λ T m. (node T m).1))
      (both_go c m₁ e [] (expanded_all (syms_of xs)) (texts_of_each attribute_texts as') (texts_of_each condition_texts (conditions (first_of cs)) ++ syms_texts ys)
      (λ T. bytes_of_each (attribute_bytes w T) as') (λ T. bytes_of_each (condition_bytes w T) (conditions (first_of cs)) ++ syms_bytes w T ys)
      (each_goes (read_attribute four w s ts) attribute_texts (λ T x. attribute_bytes w T x) attribute_goes k.attributes c as' m₁ p₁)
      (both_go m₁ m₂ e [] (expanded_all (syms_of xs)) (texts_of_each condition_texts (conditions (first_of cs))) (syms_texts ys)
      (λ T. bytes_of_each (condition_bytes w T) (conditions (first_of cs))) (λ T. syms_bytes w T ys)
      (subst (λ (zs : List Condition). G m₁ m₂ [] (texts_of_each condition_texts zs) (λ T. bytes_of_each (condition_bytes w T) zs)) (sym q)
      (each_goes (read_condition four w s ts) condition_texts (λ T x. condition_bytes w T x) condition_goes k.conditions m₁ cs m₂ p₂))
      (syms_go four w s ts b d same text_at same_is text_is_lem 64 (omega arith) k.symbols m₂ xs e p₃))))

  alternative_goes : (a : ℕ) (x : Alternative) (e : ℕ) → read_alternative four w s ts a ≡ got x e
      → G a e (expanded_all x.symbols) (alternative_texts (replaced_alternative x)) (λ T. alternative_bytes w T (replaced_alternative x))
  unfolding read_alternative alternative_parts
  alternative_goes a x e p =
      stands_then four w s ts alternatives_place 1 b _ a p (λ n c h q.
      alternative_wanted (stand a c) a c x e _ n h q (λ k i r.
      let u = then-got (times (read_attribute four w s ts) k.attributes c) _ r in
      let v = then-got (times (read_condition four w s ts) k.conditions u.mid) _ u.second in
      let l = then-got (times (read_sym four w s ts 64) k.symbols v.mid) _ v.second in
      got_as (λ z m. G a m (expanded_all z.symbols) (alternative_texts (replaced_alternative z)) (λ T. alternative_bytes w T (replaced_alternative z))) l.second
      (parts_with k a c u.value u.mid v.value v.mid l.value l.mid i u.first v.first l.first _ refl)))

  pub alternatives_go : (n a : ℕ) (as' : List Alternative) (e : ℕ) → times (read_alternative four w s ts) n a ≡ got as' e
      → G a e (expanded_alternatives as') (texts_of_each alternative_texts (renamed_alternatives as')) (λ T. bytes_of_each (alternative_bytes w T) (renamed_alternatives as'))
  unfolding times expanded_alternatives renamed_alternatives texts_of_each bytes_of_each
  alternatives_go zero a as' e p =
      got_as (λ zs m. G a m (expanded_alternatives zs) (texts_of_each alternative_texts (renamed_alternatives zs)) (λ T. bytes_of_each (alternative_bytes w T) (renamed_alternatives zs))) p (none_goes a)
  alternatives_go (suc n) a as' e p =
      let h = then-got (read_alternative four w s ts a) _ p in
      let i = then-got (times (read_alternative four w s ts) n h.mid) _ h.second in
      got_as (λ zs m. G a m (expanded_alternatives zs) (texts_of_each alternative_texts (renamed_alternatives zs)) (λ T. bytes_of_each (alternative_bytes w T) (renamed_alternatives zs))) i.second
      (both_go a h.mid i.mid (expanded_all h.value.symbols) (expanded_alternatives i.value) (alternative_texts (replaced_alternative h.value)) (texts_of_each alternative_texts (renamed_alternatives i.value))
      (λ T. alternative_bytes w T (replaced_alternative h.value)) (λ T. bytes_of_each (alternative_bytes w T) (renamed_alternatives i.value))
      (alternative_goes a h.value h.mid h.first) (alternatives_go n h.mid i.value i.mid i.first))
