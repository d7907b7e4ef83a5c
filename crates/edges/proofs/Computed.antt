-- The table of P1 to P8 holds, all rows together, by computing the definitions with the areas that the program lends.
-- Assumes nothing.
use mathlib.Core.Path.{◌≡◌, refl}
use mathlib.Core.Bool.{false}
use mathlib.Core.List.{map}
use Rattle.numbers.specs.Circular as numbersCircular
use Rattle.numbers.specs.Order as numbersOrder
use Rattle.numbers.specs.Instants as numbersInstants
use Rattle.dlt.specs.Bytes as dltBytes
use Rattle.dlt.specs.Header as dltHeader
use Rattle.dlt.specs.Record as dltRecord
use Rattle.text.specs.Decimal as textDecimal
use Rattle.text.specs.Put as textPut
use Rattle.clock.specs.Base as clockBase
use Rattle.clock.specs.Ranges as clockRanges
use Rattle.clock.specs.Release as clockRelease
use Rattle.clock.specs.Root as clockRoot
use Rattle.clock.specs.Samples as clockSamples
use Rattle.clock.specs.Sync as clockSync
use Rattle.acks.specs.History as acksHistory
use Rattle.intervals.specs.Median as intervalsMedian
use Rattle.intervals.specs.Rates as intervalsRates
use Rattle.acks.specs.Rtt as acksRtt
use Rattle.slots.specs.Ring as slotsRing
use Rattle.slots.specs.Words as slotsWords
use Rattle.window.specs.Push as windowPush
use Rattle.window.specs.Show as windowShow
use Rattle.window.specs.Window as windowWindow
use Rattle.window_pop.specs.Pop as windowpopPop
use Rattle.window_report.specs.Drop as windowreportDrop
use Rattle.window_report.specs.Report as windowreportReport
use Rattle.head.specs.Head as headHead
use Rattle.feedback.specs.Acking as feedbackAcking
use Rattle.receiver.specs.Data as receiverData
use Rattle.feedback.specs.Loss as feedbackLoss
use Rattle.receiver.specs.Message as receiverMessage
use Rattle.upkeep.specs.Request as upkeepRequest
use Rattle.upkeep.specs.Show as upkeepShow
use Rattle.feedback.specs.Sync as feedbackSync
use Rattle.shapes.specs.Shapes as shapesShapes
use Rattle.lines.specs.Lines as linesLines
use Rattle.trace.specs.Trace as traceTrace
use Rattle.tally.specs.Tally as tallyTally
use Rattle.trace.specs.Trace.{output_of}
use Rattle.trace.specs.Lends.{areas_made}
use Rattle.edges.specs.Table.{Row, table, be}

pub edges : map (λ (r : Row). output_of false areas_made r.file) table ≡ map (λ (r : Row). r.gives) table
unfolding tallyTally.tallied tallyTally.tally_bytes numbersCircular.distance numbersCircular.equal numbersCircular.after numbersCircular.before numbersCircular.saturating numbersCircular.sum numbersCircular.successor numbersCircular.wrap numbersCircular.signed numbersCircular.difference numbersOrder.order numbersInstants.clamp numbersInstants.interval_of dltBytes.big_from dltBytes.big dltBytes.field dltBytes.time_at dltHeader.is_header dltHeader.header_of dltRecord.least_size dltRecord.data_of dltRecord.fields_of dltRecord.record_of textDecimal.digits textDecimal.decimal textDecimal.signed_decimal textPut.put textPut.put_of clockBase.fresh_base clockBase.instant_of clockBase.stamp_of clockBase.drift_of clockBase.shifted clockBase.moved clockBase.adjusted clockRanges.clock_ok clockRelease.released clockRelease.release_of clockRoot.root clockSamples.no_samples clockSamples.distance_of clockSamples.mean_with clockSamples.squares_with clockSamples.sampled clockSamples.variance_of clockSamples.deviation_of clockSamples.truncated_of clockSync.fresh_clock clockSync.adjusted_by clockSync.judged clockSync.sample_taken clockSync.synchronized acksHistory.departure_at acksHistory.write_ack acksHistory.fresh_history acksHistory.is_recent acksHistory.none_due acksHistory.is_worn acksHistory.is_expired acksHistory.first_kept acksHistory.leaving acksHistory.next_ack acksHistory.first_after acksHistory.append_of acksHistory.full_ack_of acksHistory.ack2_of acksHistory.light_ack_of acksHistory.cleared_of acksHistory.history_ok intervalsMedian.insert intervalsMedian.sort intervalsMedian.median_of numbersInstants.since_time intervalsRates.window_of intervalsRates.fresh_arrivals intervalsRates.fresh_links intervalsRates.arrival_of intervalsRates.take_in intervalsRates.kept_of intervalsRates.rate_of intervalsRates.speed_kept intervalsRates.speed_of intervalsRates.pair_of intervalsRates.link_of intervalsRates.link_rate intervalsRates.capacity_of intervalsRates.all_under intervalsRates.arrivals_ok intervalsRates.links_ok acksRtt.fresh_rtt acksRtt.updated acksRtt.rtt_ok slotsRing.slot_of slotsWords.entry_of slotsWords.entry_at slotsWords.write_at slotsWords.write_report windowPush.with_lost windowPush.append_next_of windowPush.append_with_loss_of windowPush.recovered_of windowPush.recover_of windowPush.push_of windowShow.shown_of windowWindow.first_gap windowpopPop.run_from windowpopPop.message_of windowpopPop.filled windowpopPop.is_late windowpopPop.walk_from windowpopPop.due_of windowpopPop.limit_of windowpopPop.discard_front windowpopPop.discarded windowpopPop.released_of windowpopPop.late_of windowpopPop.front_of windowpopPop.pop_of windowreportDrop.give_up windowreportDrop.sweep windowreportDrop.end_in windowreportDrop.drop_of windowreportReport.is_due windowreportReport.run_put windowreportReport.slots_to windowreportReport.runs_to windowreportReport.list_to windowreportReport.report_of headHead.head_ok headHead.fresh_head headHead.made_of feedbackAcking.roomy_ack feedbackAcking.due_ack feedbackAcking.full_ack_call_of feedbackAcking.held_ack2 feedbackAcking.ack2_call_of receiverData.acked_of receiverData.rated_of receiverData.got_of receiverData.taken_of receiverData.data_call_of feedbackLoss.reported_of feedbackLoss.report_call_of receiverMessage.taken_of receiverMessage.pop_call_of upkeepRequest.drop_call_of upkeepRequest.cleared_of upkeepRequest.clear_call_of upkeepRequest.room_call_of upkeepShow.place_call_of upkeepShow.shown_call_of feedbackSync.sync_of feedbackSync.clock_call_of shapesShapes.spaced shapesShapes.closed shapesShapes.line_of linesLines.end_bytes linesLines.bad_bytes traceTrace.lines_of traceTrace.output_of be
edges = refl
