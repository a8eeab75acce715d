-- How a moment stands for what a clock in UTC shows: months count from 0, years from 1900, and there is no
-- daylight saving.
use Rattle.std.specs.Prelude.{◌≡◌, pos, ◌+ℤ◌}
use Rattle.jiff_core.specs.declared.civil.datetime.DateTime.{DateTime}
use Rattle.dump_ports.specs.declared.moment.Moment.{Moment}

-- the moment has the parts of this date and time
pub record Shows (shown : DateTime) (m : Moment) : Type 0 where
  pub sec : m.sec ≡ pos shown.time.second
  pub min : m.min ≡ pos shown.time.minute
  pub hour : m.hour ≡ pos shown.time.hour
  pub mday : m.mday ≡ pos shown.date.day
  pub mon : m.mon +ℤ pos 1 ≡ pos shown.date.month
  pub year : m.year +ℤ pos 1900 ≡ shown.date.year
  pub isdst : m.isdst ≡ pos 0
