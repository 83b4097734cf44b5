-- The expanded tree has, for each name in it, the item that the name's symbol says; so it derives what the tree derives. Assumes nothing.
use mathlib.Core.Path.{◌≡◌, refl, sym, ap, ◌∙◌, subst}
use mathlib.Core.Logic.{◌⊎◌, inl, inr, ◌↔◌}
use mathlib.Core.Bool.{true, false, false≢true, or-false, ◌||◌}
use mathlib.Core.List.Memᴰ
use mathlib.Core.List.{List, [], ◌∷◌, ◌++◌, Memᴰ}
use mathlib.Core.Option.{none}
use Prim.Native.Nat.{ℕ, zero, suc}
use Rattle.parse_tree.specs.Plain.Tree.{Text, Alternative, Nonterminal, Item, item}
use Rattle.parse_tree.specs.Plain.Texts.{has}
use Rattle.parse_tree.specs.Plain.Display.{print}
use Rattle.passes.specs.Outcome.{Tree, Outcome, yes, after}
use Rattle.meaning.specs.Phrases.{Token, Phrases, reference}
use Rattle.meaning.specs.Meaning.{is_terminal, means, Step, s_plain, s_level, DerivesExpanded}
use Rattle.passes.specs.Macros.{Pending, symbol_of, MacroExpander, replace_items, drain, without_macros}
use Rattle.meaning.proofs.Macros.TreeRounds.{unless_done, at_limit, tree_rounds, expand_tree}
use Rattle.meaning.specs.Premises.{HasItem, Flat}
use Rattle.meaning.proofs.Basics.{terminal_append}
use Rattle.passes.proofs.Outcomes.{no≢yes, yes_inj, after-yes}
use Rattle.meaning.proofs.Predicates.{Okays, Resolved}
use Rattle.meaning.proofs.Macros.Sources.{Name, Srcs}
use Rattle.meaning.proofs.Macros.Certificate.{FlatSrcs, Made, Rel, r_name, sound, complete}
use Rattle.meaning.proofs.Macros.Replacing.{Key, items_keys, AllKnown, Sourced, Replaced, items_made, items_sayings, items_terminals}
use Rattle.meaning.proofs.Macros.Arguments.{plain-name, okays_src}
use Rattle.meaning.proofs.Macros.Expanding.{expanded_made}
use Rattle.meaning.proofs.Macros.Draining.{bears, drain-in, drain-out, drain-terminals, has_left, has_right, has-replaced, plain_in, plain-has, plain-terminals}

-- ---- one round
abbrev begin : List Text → MacroExpander
begin keys = record { keys = keys; pile = [] }

-- the items of a round replaced, and the expander behind it
abbrev items_of : List Item → List Text → List Item
items_of fresh keys = (replace_items fresh (begin keys)).0

abbrev behind : List Item → List Text → MacroExpander
behind fresh keys = (replace_items fresh (begin keys)).1

limit_yes : (items : List Item) (pile : List Pending) (X : List Item) → at_limit items pile ≡ yes X → (pile ≡ []) × (items ≡ X)
unfolding at_limit
limit_yes items [] X e = (refl, yes_inj items X e)
limit_yes items (x ∷ xs) X e = absurd (no≢yes _ _ _ e)

unless-yes : (items : List Item) (pile : List Pending) (r : Outcome (List Item)) (X : List Item) → unless_done items pile r ≡ yes X → ((pile ≡ []) × (items ≡ X)) ⊎ (r ≡ yes X)
unless-yes items [] r X e = inl (refl, yes_inj items X e)
unless-yes items (x ∷ xs) r X e = inr e

module _ (G X : Tree) where
  -- it was the last, or the pile was taken down and the rounds went on
  data Round (done fresh : List Item) (keys : List Text) : ℕ → Type 0 where
    last : {l : ℕ} → (behind fresh keys).pile ≡ [] → done ++ items_of fresh keys ≡ X → Round done fresh keys l
    again : {l : ℕ} (new : List Item) → drain G (behind fresh keys).pile ≡ yes new →
        tree_rounds G l (done ++ items_of fresh keys) new (behind fresh keys).keys ≡ yes X → Round done fresh keys (suc l)

  abbrev Next : ℕ → List Item → List Item → List Text → Outcome (List Item)
  Next l done fresh keys = after (drain G (behind fresh keys).pile) (λ new. tree_rounds G l (done ++ items_of fresh keys) new (behind fresh keys).keys)

  round : (l : ℕ) (done fresh : List Item) (keys : List Text) → tree_rounds G l done fresh keys ≡ yes X → Round done fresh keys l
  unfolding tree_rounds
  round zero done fresh keys e = let (p, q) = limit_yes _ _ X e in last p q
  round (suc l) done fresh keys e = go (unless-yes _ _ _ X e)
    where
      go : (((behind fresh keys).pile ≡ []) × (done ++ items_of fresh keys ≡ X)) ⊎ (Next l done fresh keys ≡ yes X) → Round done fresh keys (suc l)
      go (inl (p, q)) = last p q
      go (inr e') = let (new, en, er) = after-yes (drain G (behind fresh keys).pile) _ X e' in again new en er

  -- what one round keeps of the items so far, and what it asks of the tree_rounds behind it, holds of all tree_rounds
  module _ (P : List Item → Type 0) (ends : (done fresh : List Item) (keys : List Text) → P (done ++ items_of fresh keys) → P (done ++ fresh))
      (grows : (items : List Item) (pile : List Pending) (new : List Item) → drain G pile ≡ yes new → P (items ++ new) → P items) (whole : P X) where
    all_rounds : (l : ℕ) (done fresh : List Item) (keys : List Text) → tree_rounds G l done fresh keys ≡ yes X → P (done ++ fresh)
    all_rounds zero done fresh keys e = go (round zero done fresh keys e)
      where
        go : Round done fresh keys zero → P (done ++ fresh)
        go (last p q) = ends done fresh keys (subst P (sym q) whole)
    all_rounds (suc l) done fresh keys e = go (round (suc l) done fresh keys e) (all_rounds l)
      where
        go : Round done fresh keys (suc l) → ((d f : List Item) (k : List Text) → tree_rounds G l d f k ≡ yes X → P (d ++ f)) → P (done ++ fresh)
        go (last p q) ih = ends done fresh keys (subst P (sym q) whole)
        go (again new en er) ih = ends done fresh keys (grows _ _ new en (ih _ new _ er))

  -- an item once there stays, under its name
  persist : (n : Text) (l : ℕ) (done fresh : List Item) (keys : List Text) → tree_rounds G l done fresh keys ≡ yes X → HasItem (done ++ fresh) n → HasItem X n
  persist n = all_rounds (λ is. HasItem is n → HasItem X n) (λ done fresh keys k h. k (has-replaced done fresh (begin keys) n h)) (λ items pile new en k h. k (has_left items new n h)) (λ h. h)

  one_round_lem : (done fresh : List Item) (keys : List Text) (n : Text) → is_terminal (done ++ items_of fresh keys) n ≡ is_terminal (done ++ fresh) n
  one_round_lem done fresh keys n = terminal_append done (items_of fresh keys) n ∙ ap (is_terminal done n ||◌) (items_terminals fresh (begin keys) n) ∙ sym (terminal_append done fresh n)

  no_new : (items : List Item) (pile : List Pending) (new : List Item) → drain G pile ≡ yes new → (n : Text) → is_terminal (items ++ new) n ≡ is_terminal items n
  no_new items pile new en n = terminal_append items new n ∙ ap (is_terminal items n ||◌) (drain-terminals G pile new en n) ∙ or-false (is_terminal items n)

  terminals : (n : Text) (l : ℕ) (done fresh : List Item) (keys : List Text) → tree_rounds G l done fresh keys ≡ yes X → is_terminal X n ≡ is_terminal (done ++ fresh) n
  terminals n = all_rounds (λ is. is_terminal X n ≡ is_terminal is n) (λ done fresh keys k. k ∙ one_round_lem done fresh keys n) (λ items pile new en k. k ∙ no_new items pile new en n) refl

  -- ---- every item is made. A name is known if X, the final tree, has its item: so nothing has to be shown again for later tree_rounds
  module _ (res : Resolved G) (known : (n : Text) → HasItem G n → HasItem X n) where
    abbrev K : Text → Type 0
    K = HasItem X

    abbrev Stays : List Item → Type 0
    Stays is = (k : Text) → HasItem is k → K k

    abbrev Borne : List Text → List Item → Type 0
    Borne keys is = (k : Text) → has k keys ≡ true → HasItem is k

    abbrev Good : List Item → Nonterminal → Type 0
    Good done d = Memᴰ (item d) done ⊎ Replaced G K d

    module _ (done fresh : List Item) (keys : List Text) (have : Borne keys (done ++ fresh)) (pre : (d : Nonterminal) → Memᴰ (item d) fresh → Sourced G K d) where
      abbrev σ : MacroExpander
      σ = behind fresh keys

      key_of : (k : Text) → has k σ.keys ≡ true → Key keys σ.pile k
      key_of = items_keys keys fresh (begin keys) (λ k h. inl h)

      replaced_good : AllKnown G K σ → (d : Nonterminal) → Memᴰ (item d) done ⊎ Memᴰ (item d) (items_of fresh keys) → Good done d
      replaced_good f d (inl j) = inl j
      replaced_good f d (inr j) = inr (items_made G K fresh (begin keys) f pre d j)

      -- the last round: nothing was pushed
      last-good : Stays (done ++ fresh) → σ.pile ≡ [] → done ++ items_of fresh keys ≡ X → (d : Nonterminal) → Memᴰ (item d) X → Good done d
      last-good stay p q d i = replaced_good (λ k h. known_key k (key_of k h)) d (Memᴰ.append_cases done (subst (λ (z : List Item). Memᴰ (item d) z) (sym q) i))
        where
          known_key : (k : Text) → Key keys σ.pile k → K k
          known_key k (inl b) = stay k (have k b)
          known_key k (inr (x, j, e)) = absurd (Memᴰ.not-nil (subst (λ (z : List Pending). Memᴰ x z) p j))

      -- a round that goes on: what was pushed has its item in the next
      module _ (new : List Item) (en : drain G σ.pile ≡ yes new) (stay : Stays ((done ++ items_of fresh keys) ++ new)) where
        next_have : Borne σ.keys ((done ++ items_of fresh keys) ++ new)
        next_have k h = go (key_of k h)
          where
            go : Key keys σ.pile k → HasItem ((done ++ items_of fresh keys) ++ new) k
            go (inl b) = has_left (done ++ items_of fresh keys) new k (has-replaced done fresh (begin keys) k (have k b))
            go (inr (x, j, e)) =
                let (d, i, ed) = drain-in G σ.pile new en x j in
                let (n, p) = bears G x d ed in
                has_right (done ++ items_of fresh keys) new k (d, i, n ∙ sym e, p)

        next_known : AllKnown G K σ
        next_known k h = stay k (next_have k h)

        next_pre : (d : Nonterminal) → Memᴰ (item d) new → Sourced G K d
        next_pre d i =
            let (x, j, ed) = drain-out G σ.pile new en d i in
            let (m, src) = items_sayings G K fresh (begin keys) next_known pre (λ y k. absurd (Memᴰ.not-nil k)) x j in
            let (n, p) = bears G x d ed in
            expanded_made G K known res x src (stay (print (symbol_of x)) (has_right (done ++ items_of fresh keys) new (print (symbol_of x)) (d, i, n, p))) d ed

        next_good : (d : Nonterminal) → Good (done ++ items_of fresh keys) d → Good done d
        next_good d (inl i) = replaced_good next_known d (Memᴰ.append_cases done i)
        next_good d (inr r) = inr r

    abbrev AllGood : ℕ → Type 0
    AllGood l = (done fresh : List Item) (keys : List Text) → tree_rounds G l done fresh keys ≡ yes X → Borne keys (done ++ fresh) →
        ((d : Nonterminal) → Memᴰ (item d) fresh → Sourced G K d) → (d : Nonterminal) → Memᴰ (item d) X → Good done d

    good : (l : ℕ) → AllGood l
    good zero done fresh keys e have pre d i = go (round zero done fresh keys e)
      where
        go : Round done fresh keys zero → Good done d
        go (last p q) = last-good done fresh keys have pre (λ n. persist n zero done fresh keys e) p q d i
    good (suc l) done fresh keys e have pre d i = go (round (suc l) done fresh keys e) (good l)
      where
        go : Round done fresh keys (suc l) → AllGood l → Good done d
        go (last p q) ih = last-good done fresh keys have pre (λ n. persist n (suc l) done fresh keys e) p q d i
        go (again new en er) ih =
            let stay : Stays ((done ++ items_of fresh keys) ++ new) = λ n. persist n l (done ++ items_of fresh keys) new (behind fresh keys).keys er in
            next_good done fresh keys have pre new en stay d (ih _ new _ er (next_have done fresh keys have pre new en stay) (next_pre done fresh keys have pre new en stay) d i)

-- ---- the theorem
module _ (G X : Tree) (limit : ℕ) (res : Resolved G) (e : expand_tree limit G ≡ yes X) where
  all : tree_rounds G limit [] (without_macros G) [] ≡ yes X
  unfolding expand_tree
  all = e

  known : (n : Text) → HasItem G n → HasItem X n
  known n (d, i, q, p) = persist G X n limit [] (without_macros G) [] all (d, plain-has G d i p, q, p)

  plain-steps : {n : Text} {xs : Phrases} (P : Phrases → Type 0) (d : Nonterminal) → Memᴰ (item d) G → d.name ≡ n →
      ((a : Alternative) → Memᴰ a d.alternatives → P (means G [] a.symbols)) → Step false G (reference n none) xs → P xs
  plain-steps P d g q f (s_plain y a g' e' p j l r) =
      subst P (sym r) (subst (λ (z : Nonterminal). (b : Alternative) → Memᴰ b z.alternatives → P (means G [] b.symbols)) (res.distinct d y g g' (q ∙ sym e')) f a j)
  plain-steps P d g q f (s_level y h g' e' p j l u r) = absurd (false≢true l)

  -- a plain nonterminal of the tree
  source : (d : Nonterminal) → Memᴰ (item d) (without_macros G) → Sourced G (HasItem X) d
  source d i =
      let (g, p) = plain_in G d i in
      let (id, t) = res.names d g in
      let says : (a : Alternative) → Memᴰ a d.alternatives → Srcs G (HasItem X) a.symbols (means G [] a.symbols) =
      λ a j. okays_src G (HasItem X) known a.symbols (subst (λ (l : List Text). Okays G l a.symbols) p (res.symbols d g a j)) in
      record {
        says = reference d.name none;
        named = plain-name G (HasItem X) known d.name id t;
        plain = p;
        forth = λ a j. (means G [] a.symbols, s_plain d a g refl p j refl refl, says a j);
        back = λ ms st. plain-steps (λ ks. (a : Alternative) × Memᴰ a d.alternatives × Srcs G (HasItem X) a.symbols ks) d g refl (λ a j. (a, j, says a j)) st;
      }

  all_made : (d : Nonterminal) → Memᴰ (item d) X → Made G (FlatSrcs G (HasItem X)) d
  unfolding has
  all_made d i = go (good G X res known limit [] (without_macros G) [] all (λ k h. absurd (false≢true h)) source d i)
    where
      go : Memᴰ (item d) [] ⊎ Replaced G (HasItem X) d → Made G (FlatSrcs G (HasItem X)) d
      go (inl j) = absurd (Memᴰ.not-nil j)
      go (inr r) = r

  same_terminals : (n : Text) → is_terminal X n ≡ is_terminal G n
  same_terminals n = terminals G X n limit [] (without_macros G) [] all ∙ plain-terminals G n

  -- the expanded tree derives from N what the tree derives from N
  pub expanded_derives : (N : Text) → HasItem G N → (w : List Token) → DerivesExpanded X N w ↔ DerivesExpanded G N w
  expanded_derives N (d, i, q, p) w =
      let (id, t) = res.names d i in
      let r : Rel G X res.idents same_terminals all_made (reference N none) (reference N none) =
      r_name (subst (λ (z : Text). Name G z (reference z none)) q (plain-name G (HasItem X) known d.name id t)) (known N (d, i, q, p)) in
      (λ h. sound G X res.idents same_terminals all_made h r, λ h. complete G X res.idents same_terminals all_made h r)

  -- and has nothing left to expand
  pub expanded_flat : Flat X
  expanded_flat = record {
    plain = λ d i. (all_made d i).plain;
    symbols = λ d i a j. let (ms, st, hs) = (all_made d i).forth a j in hs.1;
  }
