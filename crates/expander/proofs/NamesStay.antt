-- Names stay where the keys of what was pushed, the slots that have references and the prints do; and with texts that are new. Assumes nothing.
use mathlib.Core.Path.{◌≡◌, refl, sym, ap, ◌∙◌, subst}
use mathlib.Core.Bool.{Bool, true, false, ◌||◌}
use mathlib.Core.List.{List, [], ◌++◌, append-nil}
use Prim.Native.Nat.{ℕ, ◌/◌, ◌%◌, ◌<◌, ◌≤◌}
use native.Mathlib.Omega.{arith}
use lib.ListN.{get_or, get_or-append}
use Rattle.parse_tree.specs.Plain.Tree.{Text}
use Rattle.parse_tree.specs.Plain.Texts.{has, distinct}
use Rattle.texts.specs.Table.{texts}
use Rattle.replacing.specs.Slots.{among}
use Rattle.replacing.proofs.NumbersMean.{has-append}
use Rattle.expander.specs.declared.Ground.{Ground}
use Rattle.expander.specs.Ground.{slot_at, key_at, list_place, list_at, printed_at, Records}
use Rattle.expander.specs.Held.{followed}
use Rattle.expander.specs.Names.{named_in, NameRef, Names}
use Rattle.expander.proofs.SlotsCode.{followed-kept}
use Rattle.expander.proofs.NamedTexts.{length_named, named-same}

module _ (s w w' : List ℕ) (g : Ground) (n c : ℕ) (ps : List ℕ) (h : Names s w g n c ps) (keys : (j : ℕ) → j < n → key_at w' g j ≡ key_at w g j)
    (slots : (p : ℕ) → among p ps ≡ true → slot_at w' g p ≡ slot_at w g p) (prints : (p : ℕ) → printed_at s w' g p ≡ printed_at s w g p) where
  key_slot : (j : ℕ) → j < n → slot_at w' g (key_at w' g j) ≡ slot_at w g (key_at w g j)
  key_slot j l = ap (slot_at w' g) (keys j l) ∙ slots (key_at w g j) (h.pushed j l)

  key_print : (j : ℕ) → j < n → printed_at s w' g (key_at w' g j) ≡ printed_at s w g (key_at w g j)
  key_print j l = ap (printed_at s w' g) (keys j l) ∙ prints (key_at w g j)

  followed_same : (p : ℕ) → among p ps ≡ true → followed w' g (slot_at w' g p) ≡ followed w g (slot_at w g p)
  followed_same p i = ap (followed w' g) (slots p i) ∙ followed-kept w w' g (slot_at w g p) (λ o. key_slot (slot_at w g p / 2) ((h.refers p i).odd o))

  -- theorem: where the list is as it was, the texts by number are
  pub named_stay : texts s w' g.m ≡ texts s w g.m → ((i : ℕ) → i < c → list_at w' g i ≡ list_at w g i) → named_in s w' g c ≡ named_in s w g c
  named_stay found list = named-same s w w' g c found list (λ i l z. key_print (list_at w g i / 2) ((h.entries i l).0 z))

  -- ---- the texts us are new, none of which is a pushed symbol's print
  module _ (c' : ℕ) (us : List Text) (more : c ≤ c') (named : named_in s w' g c' ≡ named_in s w g c ++ us) (apart : distinct (named_in s w' g c') ≡ true) (other : (j : ℕ) → j < n → has (printed_at s w g (key_at w g j)) us ≡ false)
      (room : list_place g c' ≤ g.keys) (entries : (i : ℕ) → i < c' → (list_at w' g i % 2 ≡ 0 → list_at w' g i / 2 < n) × (list_at w' g i % 2 ≡ 1 → list_at w' g i / 2 < 9)) (records : Records s w' g n) where
    ref_then : (p v : ℕ) → NameRef s w g n c p v → NameRef s w' g n c' p v
    ref_then p v f = record {
      even = λ z. let (x, y) = f.even z in (
        omega (arith, length_named s w g c, length_named s w' g c'),
        ap (λ (ts : List Text). get_or ts (v / 2) []) named ∙ get_or-append (named_in s w g c) us [] (v / 2) x ∙ y ∙ sym (prints p),
      );
      odd = λ z. let (x, y, d) = f.odd z in (
        x,
        key_print (v / 2) x ∙ y ∙ sym (prints p),
        rw (prints p, named) (has-append (printed_at s w g p) (named_in s w g c) us ∙ ap (λ (q : Bool). q || has (printed_at s w g p) us) d ∙ ap (λ (t : Text). has t us) (sym y) ∙ other (v / 2) x),
      );
    }

    -- theorem: the names then
    pub names_then : Names s w' g n c' ps
    names_then = record {
      records = records;
      room = room;
      apart = apart;
      entries = entries;
      pushed = λ j l. rw (keys j l) (h.pushed j l);
      inside = h.inside;
      off = h.off;
      refers = λ p i. rw (slots p i) (record { even = λ z. omega (arith, (h.refers p i).even z); odd = (h.refers p i).odd });
      refs = λ p i. subst (NameRef s w' g n c' p) (sym (followed_same p i)) (ref_then p (followed w g (slot_at w g p)) (h.refs p i));
      own = λ j l z. key_slot j l ∙ h.own j l (sym (ap (λ (v : ℕ). v % 2) (key_slot j l)) ∙ z);
      unlike = λ i j l m y z d. h.unlike i j l m (sym (ap (λ (v : ℕ). v % 2) (key_slot i l)) ∙ y) (sym (ap (λ (v : ℕ). v % 2) (key_slot j m)) ∙ z) (sym (key_print i l) ∙ d ∙ key_print j m);
    }

  -- theorem: and where none is new
  pub names_stay : texts s w' g.m ≡ texts s w g.m → ((i : ℕ) → i < c → list_at w' g i ≡ list_at w g i) → Records s w' g n → Names s w' g n c ps
  unfolding has
  names_stay found list r =
      let e = named_stay found list in
      names_then c [] (omega arith) (e ∙ sym (append-nil (named_in s w g c))) (ap distinct e ∙ h.apart) (λ j l. refl) h.room (λ i l. rw (list i l) (h.entries i l)) r
