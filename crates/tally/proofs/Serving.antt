-- What `serve` leaves is the layer's outcome, kind by kind: where the store has another length the call is answered 1 and changes nothing; else the
-- slots are those of the definition, and where the answer is 0 the elements counted are its too. Assumes nothing.
use mathlib.Core.Path.{◌≡◌, refl, sym, ap, ap₂, ◌∙◌}
use mathlib.Core.Logic.{◌≢◌}
use mathlib.Core.Bool.{Bool, true, false, cond}
use mathlib.Core.List.{List}
use Prim.Native.Nat.{ℕ, zero, suc, ◌%◌, ◌^◌}
use native.Mathlib.Nat.{mod-eq_of_lt}
use native.Mathlib.Omega.{arith}
use borrow.Author.Tests.{eq-eqb, ne_eqb, eqb-true, eqb-false}
use lib.Dec.{eqb}
use lib.ListN.{length}
use Rattle.octets.specs.Bytes.{bytes_at}
use Rattle.octets.proofs.Bytes.{whole}
use Rattle.answer.specs.declared.Answer.{Answer}
use Rattle.answer.specs.declared.Call.{Call as Name}
use Rattle.answer.specs.declared.Fault.TheVariants.{Store, Records}
use Rattle.answer.specs.Answer.{told}
use Rattle.store.specs.declared.Layout.{Layout}
use Rattle.store.specs.Layout.{Sound, slot_at, layout_of}
use Rattle.store.proofs.Sizes.{sized_sound}
use Rattle.admission.specs.Refusals.{refusal, has_bit0, hands_over}
use Rattle.admission.specs.Target.{slot_named, base_of}
use Rattle.state.specs.State.{get_state, set_state}
use Rattle.run.specs.Run.{input_size, input_of, run_vcpu}
use Rattle.guests.specs.Guests.{create_vcpu, delete_guest}
use Rattle.l0.specs.Calls.{outcome}
use Rattle.l0.specs.Numbered.{CallRecord, Called, call_of, called}
use Rattle.tally.specs.declared.Summary.{Summary}
use Rattle.tally.specs.declared.Change.{Change}
use Rattle.tally.specs.declared.Change.TheVariants.{Nothing, Renewed, Set, Ran}
use Rattle.tally.specs.declared.Touched.{Touched}
use Rattle.tally.specs.declared.Served.{Served}
use Rattle.tally.specs.Tally.{Tallied, all_set, refused_by, on_success, dropped, noted, noted_by, r3_of, beside, counted, tallied}
use Rattle.tally.specs.Private.{set_in, noted_at, no_slot, touched_by, get_change, set_change, run_change, change_for, HeldBytes, Serves}
use Rattle.tally.proofs.Noting.{noted_nothing, at_nothing, one_noted, mask_noted}
use Rattle.tally.proofs.Accepted.{Ran as Accepts, set_accepted, run_accepted, no_create, no_delete, no_get, no_set, no_run}

-- ---- changes that differ only where they do not matter
set_same : (flags r3 n m : ℕ) → (hands_over flags ≡ false → r3 ≡ 0 → n ≡ m) → set_change flags r3 n ≡ set_change flags r3 m
set_same flags r3 n m f = go (has_bit0 flags) (eqb r3 0) refl (hands_over flags) refl
  where
    go : (w z : Bool) → eqb r3 0 ≡ z → (h : Bool) → hands_over flags ≡ h
        → cond w Nothing (cond z (cond h Nothing (Set n)) (refused_by r3)) ≡ cond w Nothing (cond z (cond h Nothing (Set m)) (refused_by r3))
    go true z a h b = refl
    go false true a true b = refl
    go false true a false b = ap Set (f b (eqb-true r3 0 a))
    go false false a h b = refl

run_same : (r3 n m x y : ℕ) → (r3 ≡ 0 → (n ≡ m) × (x ≡ y)) → run_change r3 n x ≡ run_change r3 m y
run_same r3 n m x y f = go (eqb r3 0) refl
  where
    go : (z : Bool) → eqb r3 0 ≡ z → cond z (Ran n x) (refused_by r3) ≡ cond z (Ran m y) (refused_by r3)
    go true a = ap₂ Ran (f (eqb-true r3 0 a)).0 (f (eqb-true r3 0 a)).1
    go false a = refl

-- ---- an answer of 1 changes nothing
told_one : (c : Name) (a : Answer) → a ≡ refusal Store → (told c a.fault a.value).r3 ≡ 1
told_one c a e = ap (λ (x : Answer). (told c x.fault x.value).r3) e

one_renews : (r3 : ℕ) → r3 ≡ 1 → on_success r3 Renewed Nothing ≡ Nothing
one_renews r3 e = ap (λ (x : ℕ). on_success x Renewed Nothing) e

cond_nothing : (b : Bool) → cond b Nothing Nothing ≡ Nothing
cond_nothing true = refl
cond_nothing false = refl

one_gets : (flags r3 : ℕ) → r3 ≡ 1 → get_change flags r3 ≡ Nothing
one_gets flags r3 e = ap (λ (x : ℕ). get_change flags x) e ∙ cond_nothing (has_bit0 flags)

one_sets : (flags r3 n : ℕ) → r3 ≡ 1 → set_change flags r3 n ≡ Nothing
one_sets flags r3 n e = ap (λ (x : ℕ). set_change flags x n) e ∙ cond_nothing (has_bit0 flags)

one_runs : (r3 n x : ℕ) → r3 ≡ 1 → run_change r3 n x ≡ Nothing
one_runs r3 n x e = ap (λ (y : ℕ). run_change y n x) e

module _ (l : Layout) (so : Sound l) (s : List ℕ) (flags guest number exit : ℕ) (d effect u : List ℕ) (ts : List Summary) (size : length ts ≡ l.slots) where
  abbrev given : ℕ → CallRecord
  given k = record { kind = k; flags = flags; guest = guest; number = number; exit = exit; «data» = d; effect = effect }

  abbrev slots_of : ℕ → Touched
  slots_of k = cond (eqb (length s) l.size) (touched_by l s k flags guest number) no_slot

  -- nothing is changed on either side
  quiet : (t : Touched) (c e : Change) (p : ℕ → Bool) → c ≡ Nothing → e ≡ Nothing → noted_at t.first t.slots c ts ≡ noted p e 0 ts
  quiet t c e p x y = ap (λ (z : Change). noted_at t.first t.slots z ts) x ∙ at_nothing t.first t.slots ts ∙ sym (ap (λ (z : Change). noted p z 0 ts) y ∙ noted_nothing p 0 ts)

  -- by the store's length: of another one the change is none; else the slots are t
  by_length : (k : ℕ) (c e : Change) (p : ℕ → Bool) → ((length s ≡ l.size → ⊥) → (c ≡ Nothing) × (e ≡ Nothing))
      → (length s ≡ l.size → noted_at (touched_by l s k flags guest number).first (touched_by l s k flags guest number).slots c ts ≡ noted p e 0 ts)
      → noted_at (slots_of k).first (slots_of k).slots c ts ≡ noted p e 0 ts
  by_length k c e p f g = go (eqb (length s) l.size) refl
    where
      go : (b : Bool) → eqb (length s) l.size ≡ b
          → noted_at (cond b (touched_by l s k flags guest number) no_slot).first (cond b (touched_by l s k flags guest number) no_slot).slots c ts ≡ noted p e 0 ts
      go true q = g (eqb-true _ _ q)
      go false q = quiet no_slot c e p (f (eqb-false _ _ q)).0 (f (eqb-false _ _ q)).1

  -- a change of the one record in slot j
  at_one : (j : ℕ) (c e : Change) → c ≡ e → noted_at j 1 c ts ≡ noted (λ i. eqb i j) e 0 ts
  at_one j c e q = one_noted c j ts ∙ ap (λ (z : Change). noted (λ i. eqb i j) z 0 ts) q

  module _ (h n : ℕ) where
    abbrev r3By : ℕ → ℕ
    r3By k = r3_of k (called l s (given k) u).answer

    abbrev Notes : ℕ → Type 0
    Notes k = noted_at (slots_of k).first (slots_of k).slots (change_for k flags (r3By k) exit n) ts ≡ noted_by l s (call_of (given k) u) (r3By k) ts

    notes_create : Notes 4
    unfolding called outcome touched_by change_for
    notes_create =
        let same = on_success (told Name.CreateVcpu (create_vcpu l s flags guest number).answer.fault (create_vcpu l s flags guest number).answer.value).r3 Renewed Nothing in
        by_length 4 same same _
        (λ m. let q = one_renews _ (told_one Name.CreateVcpu _ (no_create l s m flags guest number)) in (q, q))
        (λ e. at_one _ same same refl)

    notes_get : Notes 5
    unfolding called outcome touched_by change_for
    notes_get =
        let same = get_change flags (told Name.GetState (get_state l s flags guest number d).answer.fault (get_state l s flags guest number d).answer.value).r3 in
        by_length 5 same same _
        (λ m. let q = one_gets flags _ (told_one Name.GetState _ (no_get l s m flags guest number d)) in (q, q))
        (λ e. at_one _ same same refl)

    notes_set : n ≡ set_in d → Notes 6
    unfolding called outcome touched_by change_for
    notes_set f =
        let r3 = (told Name.SetState (set_state l s flags guest number d).answer.fault (set_state l s flags guest number d).answer.value).r3 in
        by_length 6 (set_change flags r3 n) (set_change flags r3 (all_set d)) _
        (λ m. let q = told_one Name.SetState _ (no_set l s m flags guest number d) in (one_sets flags r3 n q, one_sets flags r3 (all_set d) q))
        (λ e. at_one _ _ _ (set_same flags r3 n (all_set d) (λ a z. f ∙ set_accepted Name.SetState l s flags guest number d a z)))

    abbrev part : List ℕ
    part = input_of s (base_of l s false guest number) d

    notes_run : (Accepts l s guest number (input_size s (base_of l s false guest number)) d exit → n ≡ set_in part) → Notes 7
    unfolding called outcome touched_by change_for
    notes_run f =
        let o = run_vcpu l s flags guest number d u effect exit in
        let r3 = (told Name.RunVcpu o.answer.fault o.answer.value).r3 in
        by_length 7 (run_change r3 n (exit % 2 ^ 32)) (run_change r3 (all_set part) exit) _
        (λ m. let q = told_one Name.RunVcpu _ (no_run l s m flags guest number d u effect exit) in (one_runs r3 n (exit % 2 ^ 32) q, one_runs r3 (all_set part) exit q))
        (λ e. at_one _ _ _ (run_same r3 n (all_set part) (exit % 2 ^ 32) exit (λ z.
        let a = run_accepted Name.RunVcpu l so s flags guest number d u effect exit z in (f a ∙ a.counted, mod-eq_of_lt a.small))))

    notes_delete : Notes 8
    unfolding called outcome touched_by change_for
    notes_delete =
        let same = on_success (told Name.DeleteGuest (delete_guest l s flags guest).answer.fault (delete_guest l s flags guest).answer.value).r3 Renewed Nothing in
        by_length 8 same same _
        (λ m. let q = one_renews _ (told_one Name.DeleteGuest _ (no_delete l s m flags guest number)) in (q, q))
        (λ e. mask_noted same (dropped l s flags guest) l.slots ts size)

    -- what is held of the data, where it matters
    abbrev Counts : ℕ → Type 0
    Counts k = (k ≡ 6 → n ≡ set_in d) × (k ≡ 7 → Accepts l s guest number (input_size s (base_of l s false guest number)) d exit → n ≡ set_in part)

    notes : (k : ℕ) → Counts k → Notes k
    unfolding change_for
    notes zero f = at_nothing _ _ ts
    notes (suc zero) f = quiet (slots_of 1) _ _ _ refl refl
    notes (suc (suc zero)) f = quiet (slots_of 2) _ _ _ refl refl
    notes (suc (suc (suc zero))) f = quiet (slots_of 3) _ _ _ refl refl
    notes (suc (suc (suc (suc zero)))) f = notes_create
    notes (suc (suc (suc (suc (suc zero))))) f = notes_get
    notes (suc (suc (suc (suc (suc (suc zero)))))) f = notes_set (f.0 refl)
    notes (suc (suc (suc (suc (suc (suc (suc zero))))))) f = notes_run (f.1 refl)
    notes (suc (suc (suc (suc (suc (suc (suc (suc zero)))))))) f = notes_delete
    notes (suc (suc (suc (suc (suc (suc (suc (suc (suc k))))))))) f = at_nothing _ _ ts

-- ---- in the form of the needs
module _ (l : Layout) (s : List ℕ) (kind flags guest number exit : ℕ) (d effect u : List ℕ) where
  abbrev asked : CallRecord
  asked = record { kind = kind; flags = flags; guest = guest; number = number; exit = exit; «data» = d; effect = effect }

  -- set state and run write no data
  data_set : kind ≡ 6 → (called l s asked u).«data» ≡ d
  unfolding called outcome
  data_set e = ap (λ (k : ℕ). (called l s (record { kind = k; flags = flags; guest = guest; number = number; exit = exit; «data» = d; effect = effect }) u).«data») e

  data_run : kind ≡ 7 → (called l s asked u).«data» ≡ d
  unfolding called outcome
  data_run e = ap (λ (k : ℕ). (called l s (record { kind = k; flags = flags; guest = guest; number = number; exit = exit; «data» = d; effect = effect }) u).«data») e

  slot_run : kind ≡ 7 → length s ≡ l.size → (cond (eqb (length s) l.size) (touched_by l s kind flags guest number) no_slot).first ≡ slot_named l s guest number
  unfolding touched_by
  slot_run e q = ap₂ (λ (b : Bool) (k : ℕ). (cond b (touched_by l s k flags guest number) no_slot).first) (eq-eqb _ _ q) e

  base_slot : base_of l s false guest number ≡ slot_at l (slot_named l s guest number)
  unfolding base_of
  base_slot = refl

  module _ (t : Touched) (q : t ≡ cond (eqb (length s) l.size) (touched_by l s kind flags guest number) no_slot) (h : ℕ) (held : HeldBytes l s kind t.first (length d) h)
      (v : l ≡ layout_of s) (a : Answer) (s' d' u' : List ℕ) (call : ◌≡◌ {A = Called} (record { answer = a; store = s'; «data» = d'; output = u' }) (called (layout_of s) s asked u))
      (bytes : List ℕ) (b : bytes ≡ bytes_at d' 0 h) where
    x : ◌≡◌ {A = Called} (record { answer = a; store = s'; «data» = d'; output = u' }) (called l s asked u)
    x = call ∙ ap (λ (m : Layout). called m s asked u) (sym v)

    kept_data : ((called l s asked u).«data» ≡ d) → d' ≡ d
    kept_data e = ap (λ (y : Called). y.«data») x ∙ e

    seven_not : kind ≡ 6 → kind ≢ 7
    seven_not e f = omega (arith, e, f)

    counts_set : kind ≡ 6 → set_in bytes ≡ set_in d
    counts_set e = ap set_in (b ∙ ap₂ (λ (y : List ℕ) (n : ℕ). bytes_at y 0 n) (kept_data (data_set e)) (held.all (seven_not e)) ∙ whole d)

    counts_run : kind ≡ 7 → Accepts l s guest number (input_size s (base_of l s false guest number)) d exit → set_in bytes ≡ set_in (input_of s (base_of l s false guest number) d)
    counts_run e p =
        let j : t.first ≡ slot_named l s guest number = ap (λ (y : Touched). y.first) q ∙ slot_run e p.long in
        let i : input_size s (slot_at l t.first) ≡ input_size s (base_of l s false guest number) = ap (λ (y : ℕ). input_size s (slot_at l y)) j ∙ ap (input_size s) (sym base_slot) in
        let r : h ≡ input_size s (slot_at l t.first) = held.registered e p.long (omega (arith, j, p.here)) (omega (arith, i, p.lent)) in
        ap set_in (b ∙ ap₂ (λ (y : List ℕ) (n : ℕ). bytes_at y 0 n) (kept_data (data_run e)) (r ∙ i))

    pub serves_with : (r3 : ℕ) → r3 ≡ r3_of kind a → (c : Change) → c ≡ change_for kind flags r3 exit (set_in bytes) → (ts : List Summary) → length ts ≡ l.slots
        → ◌≡◌ {A = Tallied} (record { answer = a; store = s'; «data» = d'; output = u'; records = noted_at t.first t.slots c ts }) (tallied l ts s asked u)
    unfolding tallied
    serves_with r3 y c z ts w =
        let o = called l s asked u in
        let k : c ≡ change_for kind flags (r3_of kind o.answer) exit (set_in bytes) = z ∙ ap (λ (m : ℕ). change_for kind flags m exit (set_in bytes)) (y ∙ ap (λ (m : Called). r3_of kind m.answer) x) in
        let m : noted_at t.first t.slots c ts ≡ noted_by l s (call_of asked u) (r3_of kind o.answer) ts =
        ap₂ (λ (f : Touched) (g : Change). noted_at f.first f.slots g ts) q k
        ∙ notes l (sized_sound l s v) s flags guest number exit d effect u ts w h (set_in bytes) kind (counts_set, counts_run) in
        ap₂ beside x m ∙ sym (ap (λ (f : Bool). cond f (counted l ts s asked u) (record { answer = refusal Records; store = s; «data» = d; output = u; records = ts })) (eq-eqb _ _ w))

  pub serves_none : (count : ℕ) (a : Answer) → a ≡ refusal Records → l ≡ layout_of s → (count ≡ l.slots → ⊥) → (ts : List Summary) → length ts ≡ count
      → ◌≡◌ {A = Tallied} (record { answer = a; store = s; «data» = d; output = u; records = noted_at 0 0 Nothing ts }) (tallied (layout_of s) ts s asked u)
  unfolding tallied
  serves_none count a e v n ts w =
      ap₂ (λ (f : Answer) (g : List Summary). record { answer = f; store = s; «data» = d; output = u; records = g }) e (at_nothing 0 0 ts)
      ∙ sym (ap (λ (f : Bool). cond f (counted l ts s asked u) (record { answer = refusal Records; store = s; «data» = d; output = u; records = ts })) (ne_eqb _ _ (λ r. n (sym w ∙ r))))
      ∙ ap (λ (f : Layout). tallied f ts s asked u) v

  pub serves_all : (count : ℕ) → l ≡ layout_of s → count ≡ l.slots → (o : Served) (s' d' u' : List ℕ) → Serves l l.slots s asked u o s' d' u' → Serves (layout_of s) count s asked u o s' d' u'
  serves_all count v n o s' d' u' f ts w = f ts (w ∙ n) ∙ ap (λ (g : Layout). tallied g ts s asked u) v
