-- `console::calls::make_call` has the effect of the call that its line names, which is none of those before it. Assumes nothing.
use Rattle.std.proofs.Common.{◌∙◌, sym, ap}
use Rattle.network.specs.Network.{network}
use Rattle.console.specs.Effects.{start_effect, bus_effect, source_effect, query_effect, read_effect, write_effect, breaking_effect, report_effect, withdraw_effect, replace_effect}
use Rattle.console.specs.laws.EffectsLaw.{call_start, call_bus, call_source, call_close, call_query, call_read, call_write, call_breaking, call_report, call_withdraw, call_replace, call_reopen, call_unknown}
use Rattle.console.proofs.calls.make_call.Goals as goal

pub returns-then-begins : goal.returns-then-begins
returns-then-begins c =
    λ h k.
    c.make_start.ensures _ ∙ ap (start_effect (network c.args.s)) c.after.ensures
    ∙ call_start (network c.args.s) c.args.line.now
    (sym c.begins.ensures ∙ c.if-begins.true)

pub returns-then-begins-2 : goal.returns-then-begins-2
returns-then-begins-2 c =
    λ h k.
    c.make_bus.ensures _ ∙ ap (bus_effect (network c.args.s)) c.after-then-begins-2.ensures
    ∙ call_bus (network c.args.s) c.args.line.now
    (sym c.begins.ensures ∙ c.if-begins.false)
    (sym c.begins-2.ensures ∙ c.if-begins-2.true)

pub returns-then-begins-3 : goal.returns-then-begins-3
returns-then-begins-3 c =
    λ h k.
    c.make_source.ensures _ ∙ ap (source_effect (network c.args.s)) c.after-then-begins-3.ensures
    ∙ call_source (network c.args.s) c.args.line.now
    (sym c.begins.ensures ∙ c.if-begins.false)
    (sym c.begins-2.ensures ∙ c.if-begins-2.false)
    (sym c.begins-3.ensures ∙ c.if-begins-3.true)

pub returns-then-is : goal.returns-then-is
returns-then-is c =
    λ h k.
    c.make_close.ensures _
    ∙ call_close (network c.args.s) c.args.line.now
    (sym c.begins.ensures ∙ c.if-begins.false)
    (sym c.begins-2.ensures ∙ c.if-begins-2.false)
    (sym c.begins-3.ensures ∙ c.if-begins-3.false)
    (sym c.is.ensures ∙ c.if-is.true)

pub returns-then-begins-4 : goal.returns-then-begins-4
returns-then-begins-4 c =
    λ h k.
    c.make_query.ensures.effect _ ∙ ap (query_effect (network c.args.s)) c.after-then-begins-4.ensures
    ∙ call_query (network c.args.s) c.args.line.now
    (sym c.begins.ensures ∙ c.if-begins.false)
    (sym c.begins-2.ensures ∙ c.if-begins-2.false)
    (sym c.begins-3.ensures ∙ c.if-begins-3.false)
    (sym c.is.ensures ∙ c.if-is.false)
    (sym c.begins-4.ensures ∙ c.if-begins-4.true)

pub returns-then-begins-5 : goal.returns-then-begins-5
returns-then-begins-5 c =
    λ h k.
    c.make_read.ensures _ h ∙ ap (read_effect (network c.args.s)) c.after-then-begins-5.ensures
    ∙ call_read (network c.args.s) c.args.line.now
    (sym c.begins.ensures ∙ c.if-begins.false)
    (sym c.begins-2.ensures ∙ c.if-begins-2.false)
    (sym c.begins-3.ensures ∙ c.if-begins-3.false)
    (sym c.is.ensures ∙ c.if-is.false)
    (sym c.begins-4.ensures ∙ c.if-begins-4.false)
    (sym c.begins-5.ensures ∙ c.if-begins-5.true)

pub returns-then-begins-6 : goal.returns-then-begins-6
returns-then-begins-6 c =
    λ h k.
    c.make_write.ensures.effect _ h ∙ ap (write_effect (network c.args.s)) c.after-then-begins-6.ensures
    ∙ call_write (network c.args.s) c.args.line.now
    (sym c.begins.ensures ∙ c.if-begins.false)
    (sym c.begins-2.ensures ∙ c.if-begins-2.false)
    (sym c.begins-3.ensures ∙ c.if-begins-3.false)
    (sym c.is.ensures ∙ c.if-is.false)
    (sym c.begins-4.ensures ∙ c.if-begins-4.false)
    (sym c.begins-5.ensures ∙ c.if-begins-5.false)
    (sym c.begins-6.ensures ∙ c.if-begins-6.true)

pub returns-then-begins-7 : goal.returns-then-begins-7
returns-then-begins-7 c =
    λ h k.
    c.make_breaking.ensures.effect _ k ∙ ap (breaking_effect (network c.args.s)) c.after-then-begins-7.ensures
    ∙ call_breaking (network c.args.s) c.args.line.now
    (sym c.begins.ensures ∙ c.if-begins.false)
    (sym c.begins-2.ensures ∙ c.if-begins-2.false)
    (sym c.begins-3.ensures ∙ c.if-begins-3.false)
    (sym c.is.ensures ∙ c.if-is.false)
    (sym c.begins-4.ensures ∙ c.if-begins-4.false)
    (sym c.begins-5.ensures ∙ c.if-begins-5.false)
    (sym c.begins-6.ensures ∙ c.if-begins-6.false)
    (sym c.begins-7.ensures ∙ c.if-begins-7.true)

pub returns-then-begins-8 : goal.returns-then-begins-8
returns-then-begins-8 c =
    λ h k.
    c.make_report.ensures.effect _ k ∙ ap (report_effect (network c.args.s)) c.after-then-begins-8.ensures
    ∙ call_report (network c.args.s) c.args.line.now
    (sym c.begins.ensures ∙ c.if-begins.false)
    (sym c.begins-2.ensures ∙ c.if-begins-2.false)
    (sym c.begins-3.ensures ∙ c.if-begins-3.false)
    (sym c.is.ensures ∙ c.if-is.false)
    (sym c.begins-4.ensures ∙ c.if-begins-4.false)
    (sym c.begins-5.ensures ∙ c.if-begins-5.false)
    (sym c.begins-6.ensures ∙ c.if-begins-6.false)
    (sym c.begins-7.ensures ∙ c.if-begins-7.false)
    (sym c.begins-8.ensures ∙ c.if-begins-8.true)

pub returns-then-begins-9 : goal.returns-then-begins-9
returns-then-begins-9 c =
    λ h k.
    c.make_withdraw.ensures _ ∙ ap (withdraw_effect (network c.args.s)) c.after-then-begins-9.ensures
    ∙ call_withdraw (network c.args.s) c.args.line.now
    (sym c.begins.ensures ∙ c.if-begins.false)
    (sym c.begins-2.ensures ∙ c.if-begins-2.false)
    (sym c.begins-3.ensures ∙ c.if-begins-3.false)
    (sym c.is.ensures ∙ c.if-is.false)
    (sym c.begins-4.ensures ∙ c.if-begins-4.false)
    (sym c.begins-5.ensures ∙ c.if-begins-5.false)
    (sym c.begins-6.ensures ∙ c.if-begins-6.false)
    (sym c.begins-7.ensures ∙ c.if-begins-7.false)
    (sym c.begins-8.ensures ∙ c.if-begins-8.false)
    (sym c.begins-9.ensures ∙ c.if-begins-9.true)

pub returns-then-begins-10 : goal.returns-then-begins-10
returns-then-begins-10 c =
    λ h k.
    c.make_replace.ensures _ ∙ ap (replace_effect (network c.args.s)) c.after-then-begins-10.ensures
    ∙ call_replace (network c.args.s) c.args.line.now
    (sym c.begins.ensures ∙ c.if-begins.false)
    (sym c.begins-2.ensures ∙ c.if-begins-2.false)
    (sym c.begins-3.ensures ∙ c.if-begins-3.false)
    (sym c.is.ensures ∙ c.if-is.false)
    (sym c.begins-4.ensures ∙ c.if-begins-4.false)
    (sym c.begins-5.ensures ∙ c.if-begins-5.false)
    (sym c.begins-6.ensures ∙ c.if-begins-6.false)
    (sym c.begins-7.ensures ∙ c.if-begins-7.false)
    (sym c.begins-8.ensures ∙ c.if-begins-8.false)
    (sym c.begins-9.ensures ∙ c.if-begins-9.false)
    (sym c.begins-10.ensures ∙ c.if-begins-10.true)

pub returns-then-is-2 : goal.returns-then-is-2
returns-then-is-2 c =
    λ h k.
    c.make_reopen.ensures _
    ∙ call_reopen (network c.args.s) c.args.line.now
    (sym c.begins.ensures ∙ c.if-begins.false)
    (sym c.begins-2.ensures ∙ c.if-begins-2.false)
    (sym c.begins-3.ensures ∙ c.if-begins-3.false)
    (sym c.is.ensures ∙ c.if-is.false)
    (sym c.begins-4.ensures ∙ c.if-begins-4.false)
    (sym c.begins-5.ensures ∙ c.if-begins-5.false)
    (sym c.begins-6.ensures ∙ c.if-begins-6.false)
    (sym c.begins-7.ensures ∙ c.if-begins-7.false)
    (sym c.begins-8.ensures ∙ c.if-begins-8.false)
    (sym c.begins-9.ensures ∙ c.if-begins-9.false)
    (sym c.begins-10.ensures ∙ c.if-begins-10.false)
    (sym c.is-2.ensures ∙ c.if-is-2.true)

pub returns : goal.returns
returns c =
    λ h k.
    c.failed.ensures.effect _
    ∙ call_unknown (network c.args.s) c.args.line.now
    (sym c.begins.ensures ∙ c.if-begins.false)
    (sym c.begins-2.ensures ∙ c.if-begins-2.false)
    (sym c.begins-3.ensures ∙ c.if-begins-3.false)
    (sym c.is.ensures ∙ c.if-is.false)
    (sym c.begins-4.ensures ∙ c.if-begins-4.false)
    (sym c.begins-5.ensures ∙ c.if-begins-5.false)
    (sym c.begins-6.ensures ∙ c.if-begins-6.false)
    (sym c.begins-7.ensures ∙ c.if-begins-7.false)
    (sym c.begins-8.ensures ∙ c.if-begins-8.false)
    (sym c.begins-9.ensures ∙ c.if-begins-9.false)
    (sym c.begins-10.ensures ∙ c.if-begins-10.false)
    (sym c.is-2.ensures ∙ c.if-is-2.false)
