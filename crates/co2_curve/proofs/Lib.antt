mod Record
mod Tests
