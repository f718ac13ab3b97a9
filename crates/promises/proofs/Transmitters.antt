-- Smart transmitters, exactly: each channel is read or refused for its cause, and the first before the second.
use Rattle.std.specs.Prelude.{Option, None, Some}
use mathlib.Core.Path.{◌≡◌, refl, sym, ap, ◌∙◌, subst}
use mathlib.Core.Logic.Iff
use mathlib.Core.Logic.{◌↔◌}
use mathlib.Core.Bool.{Bool, true, false}
use Prim.Native.Nat.{ℕ, ◌≤◌}
use native.Mathlib.Omega.{arith}
use borrow.Author.Tests.{ne_eqb, lt-ltb, ltb-true}
use lib.IntN.{ℤ, pos, nat_abs}
use lib.Ieee.{binary32, of_bits}
use lib.Ieee.Scale.{finite}
use Rattle.refusals.specs.Told.{Told, done, refused, Fault as Found, fine, fault, judged}
use Rattle.refusals.proofs.Laws.{done_one, refused_number, refused_record, refused_not_done, told_one}
use Rattle.ranges.specs.Table.{temperature_ok}
use Rattle.live.specs.Live.{whole_of, single_of, temperature_of, psi_ok, pressure_of, in_order, live_of}
use Rattle.live.specs.declared.Values.{Values}
use Rattle.live.specs.Channels.{celsius_of, temperature_channel_of, pressure_channel_of, channels_of}
use Rattle.live.specs.declared.channels.Channel.{Channel}
use Rattle.live.specs.declared.channels.Channel.TheVariants.{Fahrenheit, Celsius, Pressure, Fault}
use Rattle.live.proofs.Fields.{finite_by_field}
use Rattle.live.proofs.Value.{whole_nearest, whole_only}
use Rattle.promises.proofs.SinglesJudged.{single_fault, pressure_taken}
use Rattle.api.specs.Given.{channel_by, temperature_by, pressure_by}
use Rattle.api.specs.Flat.{flat_live}
use Rattle.api.specs.declared.readings.EndakuroChannel.{EndakuroChannel}
use Rattle.promises.specs.Arguments.{first, second}
use Rattle.promises.specs.Sent.{Scaled, temperature_sent, pressure_sent, RoundedAway, ReadAs, read, ChannelCause, fault_code, wrong_kind, not_finite, out_of_range, TemperatureRead, TemperatureCause, PressureRead, PressureCause, Readable, ReadingCause, of_temperature, of_pressure}
use Rattle.promises.specs.Transmitters.{Transmitters}
use Rattle.promises.proofs.Groups.{apart}
use Rattle.promises.proofs.Reasons.{At, here, InTurn, sooner, later, tested, in-turn, Tells, by_judging, tells_refused, tells_in_words, one_cause}
use Rattle.promises.proofs.Signed.{signed}

rounded : (s : Scaled) → RoundedAway s (whole_of s.o s.k s.x)
rounded s = record { near = whole_nearest s.o s.k s.x; only = whole_only s.o s.k s.x }

-- ---- a channel

is_fault : Channel → Bool
is_fault (Fahrenheit x) = false
is_fault (Celsius x) = false
is_fault (Pressure x) = false
is_fault (Fault code) = true

not_fault : (channel : Channel) → is_fault channel ≡ false → (code : ℕ) → channel ≡ Fault code → ⊥
unfolding is_fault
not_fault channel is code e = apart (sym (ap is_fault e) ∙ is)

some_one : {s t : Scaled} → Some t ≡ Some s → t ≡ s
some_one e = cc

none_not_some : {s : Scaled} → None ≡ Some s → ⊥
none_not_some e = let z : ◌≡◌ {A = ℕ} 0 1 = cc in omega arith

module _ (sent : Channel → Option Scaled) (in_range : ℤ → Bool) (channel : Channel) where
  abbrev Read : ℤ → Type 0
  Read = ReadAs sent in_range channel

  abbrev Cause : ℕ → ℕ → Type 0
  Cause = ChannelCause sent in_range channel

  -- a channel that has a single in its place is judged as the single is
  module _ (s : Scaled) (is : sent channel ≡ Some s) (no_fault : (code : ℕ) → channel ≡ Fault code → ⊥) where
    abbrev whole : ℤ
    whole = whole_of s.o s.k s.x

    abbrev OfSingle : ℕ → ℕ → Type 0
    OfSingle = InTurn (At 12 0 (finite s.x ≡ false)) (finite s.x ≡ true) (At 13 0 (in_range whole ≡ false))

    same : (t : Scaled) → sent channel ≡ Some t → t ≡ s
    same t e = some_one (sym e ∙ is)

    same_whole : (t : Scaled) (n : ℤ) → sent channel ≡ Some t → RoundedAway t n → n ≡ whole
    same_whole t n e away = (rounded s).only n (subst (λ (u : Scaled). RoundedAway u n) (same t e) away).near

    was_read : (n : ℤ) → Read n → (finite s.x ≡ true) × (in_range whole ≡ true) × (n ≡ whole)
    was_read n (read t e number away ok) =
        let n-is = same_whole t n e away in
        (subst (λ (u : Scaled). finite u.x ≡ true) (same t e) number, sym (ap in_range n-is) ∙ ok, n-is)

    named : {number at : ℕ} → OfSingle number at → Cause number at
    named (sooner (here out)) = not_finite s is out
    named (later number (here out)) = out_of_range s whole is number (rounded s) out

    by_name : {number at : ℕ} → Cause number at → OfSingle number at
    by_name (fault_code code e) = absurd (no_fault code e)
    by_name (wrong_kind _ e) = absurd (none_not_some (sym e ∙ is))
    by_name (not_finite t e out) = sooner (here (subst (λ (u : Scaled). finite u.x ≡ false) (same t e) out))
    by_name (out_of_range t n e number away out) =
        later (subst (λ (u : Scaled). finite u.x ≡ true) (same t e) number) (here (sym (ap in_range (same_whole t n e away)) ∙ out))

    pub single_tells : Tells ((n : ℤ) × Read n) Cause (single_of in_range s.o s.k s.x)
    unfolding single_of
    single_tells =
        tells_in_words ((λ ok. (whole, read s is ok.0 (rounded s) ok.1)), (λ any. let was = was_read any.0 any.1 in (was.0, was.1)))
        (λ _ _. (named, by_name))
        (by_judging whole (in-turn (tested (finite s.x) 12 0) (tested (in_range whole) 13 0)))

    of_fault : (f : Found) {n : ℤ} → judged f whole ≡ done n → whole ≡ n
    of_fault fine e = done_one e
    of_fault (fault number at) e = absurd (refused_not_done e)

    value : {n : ℤ} → single_of in_range s.o s.k s.x ≡ done n → whole ≡ n
    unfolding single_of
    value e = of_fault (single_fault in_range whole s.x) e

    -- the number told is the one that it is read as
    pub single_read : (n : ℤ) → (single_of in_range s.o s.k s.x ≡ done n) ↔ Read n
    single_read n = (
      (λ e. let any = single_tells.accepted e in subst Read ((was_read any.0 any.1).2 ∙ value e) any.1),
      (λ reading. let told = single_tells.gives (n, reading) in told.1 ∙ ap done (sym (value told.1) ∙ sym (was_read n reading).2)),
    )

  -- one that has none is refused outright
  module _ (is : sent channel ≡ None) where
    unread : (n : ℤ) → Read n → ⊥
    unread n (read t e number away ok) = none_not_some (sym is ∙ e)

    only : (number : ℕ) → ((code : ℕ) → channel ≡ Fault code → number ≡ 34) → (((code : ℕ) → channel ≡ Fault code → ⊥) → number ≡ 35) → (n at : ℕ) → Cause n at → (number ≡ n) × (0 ≡ at)
    only number a-fault no_fault _ _ (fault_code code e) = (a-fault code e, refl)
    only number a-fault no_fault _ _ (wrong_kind no_code e) = (no_fault no_code, refl)
    only number a-fault no_fault _ _ (not_finite t e _) = absurd (none_not_some (sym is ∙ e))
    only number a-fault no_fault _ _ (out_of_range t n e _ _ _) = absurd (none_not_some (sym is ∙ e))

    pub fault_tells : (code : ℕ) → channel ≡ Fault code → Tells {R = ℤ} ((n : ℤ) × Read n) Cause (refused 34 0)
    fault_tells code e = tells_refused 34 (λ any. unread any.0 any.1) (fault_code code e) (only 34 (λ _ _. refl) (λ no_fault. absurd (no_fault code e)))

    pub kind_tells : ((code : ℕ) → channel ≡ Fault code → ⊥) → Tells {R = ℤ} ((n : ℤ) × Read n) Cause (refused 35 0)
    kind_tells no_fault = tells_refused 35 (λ any. unread any.0 any.1) (wrong_kind no_fault is) (only 35 (λ code e. absurd (no_fault code e)) (λ _. refl))

    pub refused_read : (number : ℕ) (n : ℤ) → (◌≡◌ {A = Told ℤ} (refused number 0) (done n)) ↔ Read n
    refused_read number n = ((λ e. absurd (refused_not_done e)), (λ reading. absurd (unread n reading)))

-- the kinds, each in each place
temperature_tells : (channel : Channel) → Tells ((n : ℤ) × TemperatureRead channel n) (TemperatureCause channel) (temperature_channel_of channel)
unfolding is_fault temperature_channel_of temperature_of celsius_of
temperature_tells (Fahrenheit x) = single_tells temperature_sent temperature_ok (Fahrenheit x) (record { o = 0; k = 10; x = x }) refl (not_fault (Fahrenheit x) refl)
temperature_tells (Celsius x) = single_tells temperature_sent temperature_ok (Celsius x) (record { o = 320; k = 18; x = x }) refl (not_fault (Celsius x) refl)
temperature_tells (Pressure x) = kind_tells temperature_sent temperature_ok (Pressure x) refl (not_fault (Pressure x) refl)
temperature_tells (Fault code) = fault_tells temperature_sent temperature_ok (Fault code) refl code refl

temperature_read : (channel : Channel) (n : ℤ) → (temperature_channel_of channel ≡ done n) ↔ TemperatureRead channel n
unfolding is_fault temperature_channel_of temperature_of celsius_of
temperature_read (Fahrenheit x) = single_read temperature_sent temperature_ok (Fahrenheit x) (record { o = 0; k = 10; x = x }) refl (not_fault (Fahrenheit x) refl)
temperature_read (Celsius x) = single_read temperature_sent temperature_ok (Celsius x) (record { o = 320; k = 18; x = x }) refl (not_fault (Celsius x) refl)
temperature_read (Pressure x) = refused_read temperature_sent temperature_ok (Pressure x) refl 35
temperature_read (Fault code) = refused_read temperature_sent temperature_ok (Fault code) refl 34

pressure_tells : (channel : Channel) → Tells ((n : ℤ) × PressureRead channel n) (PressureCause channel) (pressure_channel_of channel)
unfolding is_fault pressure_channel_of pressure_of
pressure_tells (Fahrenheit x) = kind_tells pressure_sent psi_ok (Fahrenheit x) refl (not_fault (Fahrenheit x) refl)
pressure_tells (Celsius x) = kind_tells pressure_sent psi_ok (Celsius x) refl (not_fault (Celsius x) refl)
pressure_tells (Pressure x) = single_tells pressure_sent psi_ok (Pressure x) (record { o = 0; k = 1; x = x }) refl (not_fault (Pressure x) refl)
pressure_tells (Fault code) = fault_tells pressure_sent psi_ok (Fault code) refl code refl

pressure_read : (channel : Channel) (n : ℤ) → (pressure_channel_of channel ≡ done n) ↔ PressureRead channel n
unfolding is_fault pressure_channel_of pressure_of
pressure_read (Fahrenheit x) = refused_read pressure_sent psi_ok (Fahrenheit x) refl 35
pressure_read (Celsius x) = refused_read pressure_sent psi_ok (Celsius x) refl 35
pressure_read (Pressure x) = single_read pressure_sent psi_ok (Pressure x) (record { o = 0; k = 1; x = x }) refl (not_fault (Pressure x) refl)
pressure_read (Fault code) = refused_read pressure_sent psi_ok (Fault code) refl 34

-- ---- the two in order

-- a refusal is the same number and record, whatever would have been told
again : {A B : Type 0} {n m a b : ℕ} → ◌≡◌ {A = Told A} (refused n a) (refused m b) → ◌≡◌ {A = Told B} (refused n a) (refused m b)
again is = λ i. refused (refused_number is i) (refused_record is i)

tells_in_order : {A B : Type 0} {C D : ℕ → ℕ → Type 0} (temperature pressure : Told ℤ) → Tells A C temperature → Tells B D pressure → Tells (A × B) (InTurn C A D) (in_order temperature pressure)
tells_in_order (refused number at) pressure this next =
    record {
      gives = λ both. absurd (refused_not_done (this.gives both.0).1);
      accepted = λ is. absurd (refused_not_done is);
      refuses = elim [ sooner why ↦ again (this.refuses why) | later ok why ↦ absurd (refused_not_done (this.gives ok).1) ];
      because = λ is. sooner (this.because (again is));
    }
tells_in_order (done tenths) (refused number at) this next =
    record {
      gives = λ both. absurd (refused_not_done (next.gives both.1).1);
      accepted = λ is. absurd (refused_not_done is);
      refuses = elim [ sooner why ↦ absurd (refused_not_done (sym (this.refuses why))) | later ok why ↦ again (next.refuses why) ];
      because = λ is. later (this.accepted refl) (next.because (again is));
    }
tells_in_order (done tenths) (done psi) this next =
    record {
      gives = λ _. (record { tenths = tenths; psi = nat_abs psi }, refl);
      accepted = λ _. (this.accepted refl, next.accepted refl);
      refuses = elim [ sooner why ↦ absurd (refused_not_done (sym (this.refuses why))) | later ok why ↦ absurd (refused_not_done (sym (next.refuses why))) ];
      because = λ is. absurd (refused_not_done (sym is));
    }

-- a whole number of psi is not below zero, so that it is the psi told
in-order-done : (temperature pressure : Told ℤ) (v : Values) → ((psi : ℤ) → pressure ≡ done psi → psi ≡ pos (nat_abs psi)) → (in_order temperature pressure ≡ done v) ↔ ((temperature ≡ done v.tenths) × (pressure ≡ done (pos v.psi)))
in-order-done (refused number at) pressure v above = ((λ e. absurd (refused_not_done e)), (λ both. absurd (refused_not_done both.0)))
in-order-done (done tenths) (refused number at) v above = ((λ e. absurd (refused_not_done e)), (λ both. absurd (refused_not_done both.1)))
in-order-done (done tenths) (done psi) v above = (
  (λ e. let same = done_one e in (ap done (λ i. (same i).tenths), ap done (above psi refl ∙ (λ i. pos (same i).psi)))),
  (λ both. λ i. done (record { tenths = done_one both.0 i; psi = nat_abs (done_one both.1 i) })),
)

reading_tells : (temperature pressure : Channel) → Tells (Readable temperature pressure) (ReadingCause temperature pressure) (channels_of temperature pressure)
unfolding channels_of
reading_tells temperature pressure =
    tells_in_words Iff.rfl
    (λ _ _. (elim [ sooner why ↦ of_temperature why | later ok why ↦ of_pressure ok.0 ok.1 why ], elim [ of_temperature why ↦ sooner why | of_pressure tenths ok why ↦ later (tenths, ok) why ]))
    (tells_in_order (temperature_channel_of temperature) (pressure_channel_of pressure) (temperature_tells temperature) (pressure_tells pressure))

reading_done : (temperature pressure : Channel) (v : Values) → (channels_of temperature pressure ≡ done v) ↔ (TemperatureRead temperature v.tenths × PressureRead pressure (pos v.psi))
unfolding channels_of
reading_done temperature pressure v =
    let told = in-order-done (temperature_channel_of temperature) (pressure_channel_of pressure) v (λ psi e. signed.psi psi (pressure_taken pressure e)) in (
      (λ e. ((temperature_read temperature v.tenths).0 (told.0 e).0, (pressure_read pressure (pos v.psi)).0 (told.0 e).1)),
      (λ both. told.1 ((temperature_read temperature v.tenths).1 both.0, (pressure_read pressure (pos v.psi)).1 both.1)),
    )

-- the first channel's refusal is the answer
stops : (temperature pressure : Channel) {number at : ℕ} → TemperatureCause temperature number at → channels_of temperature pressure ≡ refused number at
stops temperature pressure why = (reading_tells temperature pressure).refuses (of_temperature why)

-- ---- in C

unknown : (misplaced : Channel) (given : EndakuroChannel) → 4 ≤ given.kind → channel_by misplaced given ≡ misplaced
unfolding channel_by
unknown misplaced given h =
    simp (ne_eqb given.kind 0 (λ e. omega arith), ne_eqb given.kind 1 (λ e. omega arith), ne_eqb given.kind 2 (λ e. omega arith), ne_eqb given.kind 3 (λ e. omega arith))

misplaced_first : (given : EndakuroChannel) → 4 ≤ given.kind → TemperatureCause (temperature_by given) 35 0
unfolding is_fault
misplaced_first given h = subst (λ (c : Channel). TemperatureCause c 35 0) (sym (unknown _ given h)) (wrong_kind (not_fault (Pressure (of_bits binary32 0)) refl) refl)

misplaced_second : (given : EndakuroChannel) → 4 ≤ given.kind → PressureCause (pressure_by given) 35 0
unfolding is_fault
misplaced_second given h = subst (λ (c : Channel). PressureCause c 35 0) (sym (unknown _ given h)) (wrong_kind (not_fault (Fahrenheit (of_bits binary32 0)) refl) refl)

numbered : {t : Told Values} {number at : ℕ} → t ≡ refused number at → ((flat_live t).number ≡ number) × ((flat_live t).at ≡ at)
unfolding flat_live
numbered e = (ap (λ (u : Told Values). (flat_live u).number) e, ap (λ (u : Told Values). (flat_live u).at) e)

pub transmitters : Transmitters
unfolding channels_of temperature_channel_of pressure_channel_of live_of
transmitters =
    record {
      rounded = λ o k x. rounded (record { o = o; k = k; x = x });
      read_exactly = λ κ a r x v p. let exact = reading_done (first a) (second a) v in ((λ e. exact.0 (sym p ∙ e)), (λ both. p ∙ exact.1 both));
      refused_exactly = λ κ a r x number at p. let tells = reading_tells (first a) (second a) in ((λ e. tells.because (sym p ∙ e)), (λ why. p ∙ tells.refuses why));
      one_of_reading = λ temperature pressure. one_cause (channels_of temperature pressure) (reading_tells temperature pressure);
      every_pattern = λ bits. ((λ is. ltb-true _ _ (finite_by_field bits ∙ is)), (λ h. sym (finite_by_field bits) ∙ lt-ltb _ _ h));
      second_not_looked_at = λ κ a r x κ' b q y number at p p' same why.
          told_one r q (p ∙ stops (first a) (second a) why ∙ sym (p' ∙ stops (first b) (second b) (subst (λ (c : Channel). TemperatureCause c number at) same why)));
      live_is_a_case = λ κ a r x κ' b q y p p' temperature pressure. told_one q r (p' ∙ (λ i. channels_of (temperature i) (pressure i)) ∙ sym p);
      unknown_kind_first = λ κ a r x p h.
          let flat = numbered (stops (temperature_by (first a)) (pressure_by (second a)) (misplaced_first (first a) h)) in
          (ap (λ (e : _). e.number) p ∙ flat.0, ap (λ (e : _). e.at) p ∙ flat.1);
      unknown_kind_second = λ κ a r x tenths p taken h.
          let flat = numbered ((reading_tells (temperature_by (first a)) (pressure_by (second a))).refuses (of_pressure tenths taken (misplaced_second (second a) h))) in
          (ap (λ (e : _). e.number) p ∙ flat.0, ap (λ (e : _). e.at) p ∙ flat.1);
    }
