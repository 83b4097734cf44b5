-- Parts of the flat run, one behind another. Assumes nothing.
use mathlib.Core.Path.{◌≡◌, refl, sym, ap, ◌∙◌, subst}
use mathlib.Core.Bool.{Bool, true, false, cond, false≢true}
use mathlib.Core.List.{List, [], ◌∷◌, ◌++◌, map, append_assoc, append-nil}
use mathlib.Core.Option.{Option, none, some}
use Prim.Native.Nat.{ℕ, zero, suc, ◌+◌, ◌<◌, ◌≤◌}
use native.Mathlib.Omega.{arith}
use borrow.Author.Tests.{lt-leb, le-leb}
use lib.Dec.{leb}
use lib.ListN.{length}
use Rattle.std.specs.Prelude.{Some}
use Rattle.octets.specs.Working.Choice.{pick}
use Rattle.octets.specs.Plain.Numbers.{Bytes}
use Rattle.octets.specs.Plain.Runs.{same_as}
use Rattle.octets.proofs.LiesLaws.{lies_inside, lies_part}
use Rattle.parse_tree.specs.Plain.Tree.{Text, Sym}
use Rattle.parse_tree.specs.Plain.Texts.{has, number, distinct, with_new}
use Rattle.parse_tree.specs.Plain.Display.{print}
use Rattle.parse_tree.specs.Working.Nodes.{node_bytes, node_at, size_of}
use Rattle.parse_tree.specs.Plain.Reading.{got}
use Rattle.parse_tree.specs.Working.Operands.{inside_of}
use Rattle.parse_tree.specs.Working.Decode.{read_sym}
use Rattle.parse_tree.proofs.ReadingLaws.{then-got, got_as}
use Rattle.parse_tree.specs.declared.syntax.Span.{Span}
use Rattle.parse_tree.specs.declared.syntax.Leaf.{Leaf as LeafNode}
use Rattle.parse_tree.specs.declared.syntax.Around.{Around as AroundNode}
use Rattle.parse_tree.specs.declared.syntax.SymbolKind.{SymbolKind}
use Rattle.parse_tree.specs.declared.syntax.Node.{Node}
use Rattle.parse_tree.proofs.SizeLaws.{node_positive}
use Rattle.passes.specs.Macros.{MacroExpander}
use Rattle.replacing.specs.Trees.{expanded, enter_all}
use Rattle.replacing.specs.Prints.{sym_at}
use Rattle.replacing.specs.Slots.{Ref, Slots, leaf_places, around_places, listed, places, first_like, among, refer, push_text, push_new, note_by, note_as, note, note_all, numbered}
use Rattle.replacing.specs.Runs.{plain_leaf, plain_around, plain_kind, plain, is_macro, hops, key_bytes, Run, copy_step, key_by, skip_step, step_on, steps}
use Rattle.replacing.proofs.Readings.{Standing}
use Rattle.replacing.proofs.PlacesMean.{kind_places, places-at, Firm, Places, sym_here, sym_places}
use Rattle.replacing.proofs.Keys.{firm_key}
use Rattle.replacing.specs.Sound.{AllNoted}
use Rattle.replacing.proofs.Closing.{places-closed, notes_closed}
use Rattle.replacing.proofs.SlotsMean.{among-here, Sound, notes_sound}
use Rattle.replacing.proofs.TreesMean.{enter-append}
use Rattle.replacing.proofs.NumbersMean.{texts_of, Numbers, numbered-sound}
use Rattle.replacing.proofs.Growing.{Extends, extends_trans, extends_number, new_extends, new_append, new_there}
use Rattle.parse_tree.proofs.NothingNew.{There}

-- ---- a place that is noted last has a reference
noted_here : (p : ℕ) (r : Ref) (rs : List (ℕ × Ref)) → among p (map (λ (v : ℕ × Ref). v.0) ((p, r) ∷ rs)) ≡ true
noted_here p r rs = among-here p (map (λ (v : ℕ × Ref). v.0) rs)

module _ (same : ℕ → ℕ → Bool) (text_at : ℕ → Option ℕ) where
  abbrev HasRef : ℕ → Slots → Type 0
  HasRef p x = among p (map (λ (v : ℕ × Ref). v.0) x.refs) ≡ true

  -- noting keeps the new numbers, and leaves a reference
  abbrev Keeps : ℕ → Slots → Slots → Type 0
  Keeps p x y = HasRef p y × (y.news ≡ x.news)

  note_by_lem : (p : ℕ) (o : Option ℕ) (x : Slots) → Keeps p x (note_by p o x)
  unfolding note_by push_new push_text refer
  note_by_lem p none x = (noted_here p (Ref.like p) x.refs, refl)
  note_by_lem p (some k) x = go (among k x.marks)
    where
      go : (b : Bool) → Keeps p x (cond b (refer p (Ref.text k) x) (push_text p k x))
      go true = (noted_here p (Ref.text k) x.refs, refl)
      go false = (noted_here p (Ref.text k) x.refs, refl)

  note_as_lem : (p : ℕ) (o : Option ℕ) (x : Slots) → Keeps p x (note_as text_at p o x)
  unfolding note_as refer
  note_as_lem p none x = note_by_lem p (text_at p) x
  note_as_lem p (some q) x = (noted_here p (Ref.like q) x.refs, refl)

  pub note_keeps : (p : ℕ) (x : Slots) → Keeps p x (note same text_at p x)
  unfolding note
  note_keeps p x = note_as_lem p (first_like same p x.firsts) x

  pub notes_news : (ps : List ℕ) (x : Slots) → (note_all same text_at ps x).news ≡ x.news
  unfolding note_all
  notes_news [] x = refl
  notes_news (p ∷ ps) x = notes_news ps (note same text_at p x) ∙ (note_keeps p x).1

  pub notes_last : (ps : List ℕ) (p : ℕ) (x : Slots) → HasRef p (note_all same text_at (ps ++ (p ∷ [])) x)
  unfolding note_all
  notes_last [] p x = (note_keeps p x).0
  notes_last (q ∷ ps) p x = notes_last ps p (note same text_at q x)

  -- of a symbol that is expanded, its own place is the last
  module _ (w : ℕ) (s : List ℕ) (left a : ℕ) (ps : List ℕ) (e : ℕ) (x : Slots) where
    behind : (qs : List ℕ) (c : ℕ) → got (qs ++ (a ∷ [])) c ≡ got ps e → HasRef a (note_all same text_at ps x)
    behind qs c r = got_as (λ zs m. HasRef a (note_all same text_at zs x)) r (notes_last qs a x)

    kind-last : (k : SymbolKind) (c : ℕ) → plain_kind k ≡ false → kind_places w s left a k c ≡ got ps e → HasRef a (note_all same text_at ps x)
    unfolding plain_kind plain_leaf plain_around leaf_places around_places
    kind-last (SymbolKind.Leaf (LeafNode.AmbiguousId n)) c z r = absurd (false≢true (sym z))
    kind-last (SymbolKind.Leaf (LeafNode.Bare n)) c z r = absurd (false≢true (sym z))
    kind-last (SymbolKind.Leaf (LeafNode.Quoted n)) c z r = absurd (false≢true (sym z))
    kind-last (SymbolKind.Leaf (LeafNode.Regex n)) c z r = absurd (false≢true (sym z))
    kind-last (SymbolKind.Leaf (LeafNode.Nonterminal n)) c z r = absurd (false≢true (sym z))
    kind-last (SymbolKind.Leaf LeafNode.Lookahead) c z r = behind [] c r
    kind-last (SymbolKind.Leaf LeafNode.Lookbehind) c z r = behind [] c r
    kind-last (SymbolKind.Leaf LeafNode.Error) c z r = absurd (false≢true (sym z))
    kind-last (SymbolKind.Around (AroundNode.Repeat o)) c z r = let h = then-got (places w s left c) _ r in behind h.value h.mid h.second
    kind-last (SymbolKind.Around AroundNode.Choose) c z r = absurd (false≢true (sym z))
    kind-last (SymbolKind.Around (AroundNode.Name m n)) c z r = absurd (false≢true (sym z))
    kind-last (SymbolKind.Over o) c z r = let h = then-got (listed (λ q. places w s left q) (inside_of o) c) _ r in behind h.value h.mid h.second

    pub own-last : (sp : Span) (k : SymbolKind) → node_at w s a ≡ Some (Node.Symbol sp k) → plain_kind k ≡ false → places w s (suc left) a ≡ got ps e → HasRef a (note_all same text_at ps x)
    own-last sp k p z q = kind-last k (a + size_of w (Node.Symbol sp k)) z (sym (places-at w s left a (a + size_of w (Node.Symbol sp k)) sp k p refl) ∙ q)

-- ---- the steps of the run
abbrev pub run : ℕ → List ℕ → Slots → Run
run a out x = record { at = a; out = out; slots = x }

module _ (same : ℕ → ℕ → Bool) (text_at : ℕ → Option ℕ) (w base : ℕ) (s : List ℕ) where
  pub steps_append : (m n : ℕ) (r : Run) → steps same text_at w base s (m + n) r ≡ steps same text_at w base s n (steps same text_at w base s m r)
  unfolding steps
  steps_append zero n r = ap (λ (k : ℕ). steps same text_at w base s k r) (let z : 0 + n ≡ n = omega arith in z)
  steps_append (suc m) n r = ap (λ (k : ℕ). steps same text_at w base s k r) (let z : suc m + n ≡ suc (m + n) = omega arith in z) ∙ steps_append m n (step_on same text_at w base s r)

  -- at the end nothing is done
  pub step_end : (r : Run) → length s ≤ r.at → step_on same text_at w base s r ≡ r
  unfolding step_on pick
  step_end r l = rw (le-leb (length s) r.at l) refl

  pub steps_end : (n : ℕ) (r : Run) → length s ≤ r.at → steps same text_at w base s n r ≡ r
  unfolding steps
  steps_end zero r l = refl
  steps_end (suc n) r l = ap (steps same text_at w base s n) (step_end r l) ∙ steps_end n r l

module _ (four : Bool) (w : ℕ) (s : List ℕ) (ts : List Text) (b : Bytes s) (d : distinct ts ≡ true)
    (same : ℕ → ℕ → Bool) (text_at : ℕ → Option ℕ) (same_is : (p q : ℕ) → same p q ≡ same_as (print (sym_at four w s ts p)) (print (sym_at four w s ts q)))
    (text_is_lem : (p : ℕ) → text_at p ≡ cond (has (print (sym_at four w s ts p)) ts) (some (number ts (print (sym_at four w s ts p)))) none) where
  abbrev at : ℕ → Sym
  at p = sym_at four w s ts p

  abbrev Here : ℕ → Type 0
  Here p = Firm four w s ts b p

  abbrev pub Fits : Slots → MacroExpander → Type 0
  Fits x σ = Sound at Here ts d x σ

  abbrev pub texts_now : Slots → List Text
  texts_now x = texts_of at Here ts d x

  -- from a, with the slots x, the run comes to e: the symbols xs are entered, the texts us numbered, and bytes written by the numbers of these and any later texts
  pub record Gone (a e : ℕ) (xs : List Sym) (us : List Text) (bytes : List Text → List ℕ) (x : Slots) (σ : MacroExpander) : Type 0 where
    pub turns : ℕ
    pub slots : Slots
    pub few : turns + a ≤ e
    pub fits : Fits slots (enter_all xs σ)
    pub noted : AllNoted w s x → AllNoted w s slots
    pub texts : texts_now slots ≡ with_new (texts_now x) us
    pub runs : (out : List ℕ) (T : List Text) → Extends (texts_now slots) T → steps same text_at w (length ts) s turns (run a out x) ≡ run e (out ++ bytes T) slots

  abbrev pub Goes : ℕ → ℕ → List Sym → List Text → (List Text → List ℕ) → Type 0
  Goes a e xs us bytes = (x : Slots) (σ : MacroExpander) → Fits x σ → Gone a e xs us bytes x σ

  pub extends_now : (x : Slots) → Extends ts (texts_now x)
  extends_now x = record { more = map (λ p. print (at p)) x.news; is = refl }

  pub goes_none : (a : ℕ) → Goes a a [] [] (λ T. [])
  unfolding steps enter_all with_new
  goes_none a x σ h = record { turns = 0; slots = x; few = omega arith; fits = h; noted = λ y. y; texts = refl; runs = λ out T p. ap (λ (l : List ℕ). run a l x) (sym (append-nil out)) }

  pub goes_then : (a c e : ℕ) (xs ys : List Sym) (us vs : List Text) (f g : List Text → List ℕ) → Goes a c xs us f → Goes c e ys vs g → Goes a e (xs ++ ys) (us ++ vs) (λ T. f T ++ g T)
  goes_then a c e xs ys us vs f g p q x σ h =
      let u = p x σ h in
      let v = q u.slots (enter_all xs σ) u.fits in
      let n : Extends (texts_now u.slots) (texts_now v.slots) = rw v.texts (new_extends (texts_now u.slots) vs) in
      record {
        turns = u.turns + v.turns;
        slots = v.slots;
        few = omega (arith, u.few, v.few);
        fits = rw (enter-append xs ys σ) v.fits;
        noted = λ y. v.noted (u.noted y);
        texts = v.texts ∙ ap (λ (l : List Text). with_new l vs) u.texts ∙ sym (new_append (texts_now x) us vs);
        runs = λ out T m.
            steps_append same text_at w (length ts) s u.turns v.turns (run a out x)
            ∙ ap (steps same text_at w (length ts) s v.turns) (u.runs out T (extends_trans n m))
            ∙ v.runs (out ++ f T) T m
            ∙ ap (λ (l : List ℕ). run e l v.slots) (append_assoc out (f T) (g T));
      }

  -- with the bytes said otherwise
  pub goes_as : (a e : ℕ) (xs : List Sym) (us : List Text) (f g : List Text → List ℕ) → ((T : List Text) → Extends ts T → f T ≡ g T) → Goes a e xs us f → Goes a e xs us g
  goes_as a e xs us f g i p x σ h =
      let u = p x σ h in
      record {
        turns = u.turns;
        slots = u.slots;
        few = u.few;
        fits = u.fits;
        noted = u.noted;
        texts = u.texts;
        runs = λ out T m. u.runs out T m ∙ ap (λ (l : List ℕ). run e (out ++ l) u.slots) (i T (extends_trans (extends_now u.slots) m));
      }

  pub standing_inside : (a c : ℕ) (n : Node) → Standing four w s ts a c n → (a < c) × (c ≤ length s)
  standing_inside a c n h =
      let p = node_positive w (length ts) n h.passes.known in
      (omega (arith, h.lies.end), lies_inside s a c (node_bytes w n) p h.lies)

  -- ---- a command that is copied
  copied : (a c : ℕ) (n : Node) (out : List ℕ) (x : Slots) → Standing four w s ts a c n → plain (Some n) ≡ true → is_macro (Some n) ≡ false → step_on same text_at w (length ts) s (run a out x) ≡ run c (out ++ node_bytes w n) x
  unfolding step_on copy_step pick
  copied a c n out x h z y =
      let l = standing_inside a c n h in
      let i : leb (length s) a ≡ false = lt-leb (length s) a (omega arith) in
      rw (i, h.here, y, z, h.behind, lies_part s a c (node_bytes w n) h.lies) refl

  pub copy_goes : (a c : ℕ) (n : Node) (us : List Text) → Standing four w s ts a c n → plain (Some n) ≡ true → is_macro (Some n) ≡ false → There ts us → Goes a c [] us (λ T. node_bytes w n)
  unfolding steps enter_all
  copy_goes a c n us h z y t x σ k = record {
    turns = 1;
    slots = x;
    few = omega (arith, (standing_inside a c n h).0);
    fits = k;
    noted = λ y. y;
    texts = sym (new_there ts (texts_now x) us (extends_now x) t);
    runs = λ out T m. copied a c n out x h z y;
  }

  -- ---- the definition of a macro
  pub skip-goes : (a c e : ℕ) (n : Node) → Standing four w s ts a c n → is_macro (Some n) ≡ true → hops w s (length s) c ≡ e → c ≤ e → Goes a e [] [] (λ T. [])
  unfolding steps step_on skip_step pick enter_all with_new
  skip-goes a c e n h y i l x σ k =
      let m = standing_inside a c n h in
      let j : leb (length s) a ≡ false = lt-leb (length s) a (omega arith) in
      record {
        turns = 1;
        slots = x;
        few = omega (arith, m.0);
        fits = k;
        noted = λ y. y;
        texts = refl;
        runs = λ out T q. rw (j, h.here, y, h.behind, i) (ap (λ (u : List ℕ). run e u x) (sym (append-nil out)));
      }

  -- ---- a symbol that is expanded
  module _ (a e : ℕ) (y : Sym) (sp : Span) (k : SymbolKind) (there : node_at w s a ≡ Some (Node.Symbol sp k)) (z : plain_kind k ≡ false) (inside : a < length s) (ahead : a < e)
      (read : read_sym four w s ts 64 a ≡ got y e) where
    here : at a ≡ y
    here = sym_here four w s ts b 64 a y e (omega arith) read

    listing : Places four w s ts b (places w s 64 a) (expanded y) e
    listing = sym_places four w s ts b 64 (omega arith) a y e read

    after : Slots → Slots
    after x = note_all same text_at listing.at x

    after-fits : (x : Slots) (σ : MacroExpander) → Fits x σ → Fits (after x) (enter_all (expanded y) σ)
    unfolding after
    after-fits x σ h = rw (← listing.stand) (notes_sound at Here ts d same text_at same_is text_is_lem (firm_key four w s ts b) listing.at x σ listing.firm h)

    numbering : (x : Slots) (σ : MacroExpander) → Fits x σ → Numbers at Here ts d (after x) (enter_all (expanded y) σ) (print y) (numbered (length ts) a (after x))
    unfolding after
    numbering x σ h =
        subst (λ (t : Text). Numbers at Here ts d (after x) (enter_all (expanded y) σ) t (numbered (length ts) a (after x))) (ap print here)
        (numbered-sound at Here ts d a (after x) (enter_all (expanded y) σ) (after-fits x σ h)
        (own-last same text_at w s 63 a listing.at e x sp k there z listing.is))

    keyed-step : (out : List ℕ) (x : Slots) → step_on same text_at w (length ts) s (run a out x)
        ≡ run e (out ++ key_bytes w (Some (Node.Symbol sp k)) (numbered (length ts) a (after x)).0) (numbered (length ts) a (after x)).1
    unfolding step_on key_by pick plain is_macro after
    keyed-step out x =
        let i : leb (length s) a ≡ false = lt-leb (length s) a (omega arith) in
        rw (i, there, z, listing.is)
        (ap (λ n. run e (out ++ key_bytes w n (numbered (length ts) a (after x)).0) (numbered (length ts) a (after x)).1) there)

    noted_as : (x y : Slots) → x.refs ≡ y.refs → AllNoted w s x → AllNoted w s y
    noted_as x y e h =
        subst (λ (rs : List (ℕ × Ref)). (p : ℕ) → among p (map (λ (v : ℕ × Ref). v.0) rs) ≡ true → (qs : List ℕ) (m : ℕ) → places w s 64 p ≡ got qs m → (q : ℕ) → among q qs ≡ true
        → among q (map (λ (v : ℕ × Ref). v.0) rs) ≡ true) e h

    pub key_goes : Goes a e (expanded y) (print y ∷ []) (λ T. node_bytes w (Node.Symbol sp (SymbolKind.Leaf (LeafNode.Nonterminal (record { 0 = number T (print y) })))))
    unfolding steps after key_bytes
    key_goes x σ h =
        let u = numbering x σ h in
        record {
          turns = 1;
          slots = (numbered (length ts) a (after x)).1;
          few = omega arith;
          fits = u.sound;
          noted = λ g. noted_as (after x) (numbered (length ts) a (after x)).1 (sym u.kept) (notes_closed w s same text_at listing.at x (places-closed w s 64 a listing.at e (omega arith) listing.is) g);
          texts = u.texts ∙ ap (λ (l : List ℕ). with_new (ts ++ map (λ p. print (at p)) l) (print y ∷ [])) (notes_news same text_at listing.at x);
          runs = λ out T m.
              keyed-step out x
              ∙ ap (λ (l : ℕ). run e (out ++ node_bytes w (Node.Symbol sp (SymbolKind.Leaf (LeafNode.Nonterminal (record { 0 = l }))))) (numbered (length ts) a (after x)).1)
              (u.is ∙ sym (extends_number (texts_now (numbered (length ts) a (after x)).1) T (print y) m u.there));
        }
