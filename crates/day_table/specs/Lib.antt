pub mod DayTable
